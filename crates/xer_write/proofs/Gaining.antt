-- What stands in an element, one thing after another.
use Rattle.std.proofs.Common.{◌≡◌, ℕ, zero, suc, ◌+◌, Bool, true, false, List, [], ◌∷◌, ◌++◌, length, drop, refl, sym, ◌∙◌, ap, subst, append_assoc, length-append, arith, IsUtf8, rules}
use Rattle.std.proofs.lemmas.Str.{IsUtf8-from_ascii}
use Rattle.std.specs.Prelude.{◌==◌, map, codes, Result, Ok, Err, OnOk, IfOk}
use Rattle.std.specs.Bool.{OnTrue}
use Rattle.std.proofs.lemmas.Bool.{eqb-true}
use Rattle.std.proofs.lemmas.List.{append-nil, drop-map, length-map, length_push, same_from_push}
use Rattle.base_texts.specs.declared.texts.Name.{Name}
use Rattle.base_trees.specs.Rose.{Rose, node, Roses, none, more, roses_of}
use Rattle.base_trees.proofs.Roses.{roses_of-list_of}
use Rattle.simple_types.specs.declared.labels.ValueLabel.{ValueLabel}
use Rattle.xml_items.specs.declared.label.ItemLabel.{ItemLabel}
use Rattle.xml_items.specs.declared.label.ItemLabel.TheVariants.{Element, Text}
use Rattle.xml_items.specs.Plain.{Plain}
use Rattle.xml_items.specs.Mixing.{text_before, interleaved}
use Rattle.xer_items.specs.Items.{Given, given, nothing, joined, both, element_of, with_nil}
use Rattle.xer_write.specs.declared.contents.Contents.{Contents}
use Rattle.xer_write.specs.declared.contents.Outer.{Outer}
use Rattle.xml_items.specs.Unplaced.{unplaced, all_unplaced}
use Rattle.xer_write.specs.Private.Utf8.{AreUtf8, ItemIsUtf8, ItemsAreUtf8}
use Rattle.xer_write.specs.declared.receiver.Receiver.{Receiver}
use Rattle.xer_write.specs.declared.receiver.Open.TheVariants as open_element
use Rattle.xml_write.specs.declared.builder.OpenTag.{OpenTag}
use Rattle.xer_write.specs.Private.Receiving.{Tells, Opens, IsOpen, Closes}
use Rattle.xer_write.proofs.Receiving.{tells-none, tells-both, tells-element, still-open}
use Rattle.xer_write.specs.Private.Gaining.{items_in, value_text, levels, Puts, GainsIn, Gains, MakesRoom, TakesElement, Begins, IsPlain, outer_of, text_item, text_at, first_text, with_texts_before, through, left_behind}
use Rattle.xer_write.specs.Private.Giving.{mixed_gives}

pub items_in-joined : (a b : Roses Plain) → items_in (joined a b) ≡ items_in a ++ items_in b
items_in-joined none b = refl
items_in-joined (more item items) b = ap (λ s. unplaced item ∷ s) (items_in-joined items b)

-- ---- texts between kids

pub text_item-before : (words : List ℕ) (items : Roses Plain) → items_in (text_before words items) ≡ text_item words ++ items_in items
text_item-before [] items = refl
text_item-before (b ∷ bs) items = refl

pub text_item-some : (words : List ℕ) → (length words == 0) ≡ false → text_item words ≡ node (Text words 0) none ∷ []
text_item-some [] e = absurd (cc)
text_item-some (b ∷ bs) e = refl

-- the texts before the kids, and the one behind
pub interleaved-is : (texts : List (List ℕ)) (items : Roses Plain) → items_in (interleaved texts items) ≡ with_texts_before texts (items_in items) ++ text_at texts (length (items_in items))
interleaved-is [] none = refl
interleaved-is [] (more item items) = sym (append-nil (unplaced item ∷ items_in items))
interleaved-is (words ∷ texts) none = refl
interleaved-is (words ∷ texts) (more item items) =
    text_item-before words (more item (interleaved texts items))
    ∙ ap (λ s. text_item words ++ unplaced item ∷ s) (interleaved-is texts items)
    ∙ sym (append_assoc (text_item words) (unplaced item ∷ with_texts_before texts (items_in items)) (text_at texts (length (items_in items))))

pub text_item-first : (texts : List (List ℕ)) → text_item (first_text texts) ≡ text_at texts 0
text_item-first [] = refl
text_item-first (words ∷ texts) = refl

drop-all : {A : Type 0} (a b n : ℕ) (xs : List A) → a + b ≡ n → drop b (drop a xs) ≡ drop n xs
drop-all zero b n xs e = ap (λ k. drop k xs) (omega (arith, e))
drop-all (suc a) b zero xs e = absurd (omega (arith, e))
drop-all (suc a) zero (suc n) [] e = refl
drop-all (suc a) (suc b) (suc n) [] e = refl
drop-all (suc a) b (suc n) (x ∷ xs) e = drop-all a b n xs (omega (arith, e))

text_at-drop : (n : ℕ) (texts : List (List ℕ)) → text_at (drop n texts) 0 ≡ text_at texts n
text_at-drop zero texts = refl
text_at-drop (suc n) [] = refl
text_at-drop (suc n) (words ∷ texts) = text_at-drop n texts

-- ---- items on their way out

without_texts : (items : List (Rose ItemLabel)) → with_texts_before [] items ≡ items
without_texts [] = refl
without_texts (item ∷ items) = refl

with_one : (texts : List (List ℕ)) (item : Rose ItemLabel) → with_texts_before texts (item ∷ []) ≡ text_at texts 0 ++ item ∷ []
with_one [] item = refl
with_one (words ∷ texts) item = refl

with_texts-append : (texts : List (List ℕ)) (a b : List (Rose ItemLabel)) → with_texts_before texts (a ++ b) ≡ with_texts_before texts a ++ with_texts_before (drop (length a) texts) b
with_texts-append texts [] b = refl
with_texts-append [] (x ∷ a) b = ap (λ s. (x ∷ a) ++ s) (sym (without_texts b))
with_texts-append (words ∷ texts) (x ∷ a) b =
    ap (λ s. text_item words ++ x ∷ s) (with_texts-append texts a b)
    ∙ sym (append_assoc (text_item words) (x ∷ with_texts_before texts a) (with_texts_before (drop (length a) texts) b))

pub through-none : (ls : List (List (List ℕ))) → through ls [] ≡ []
through-none [] = refl
through-none (texts ∷ ls) = ap (with_texts_before texts) (through-none ls)

pub left-none : (ls : List (List (List ℕ))) → left_behind ls [] ≡ ls
left-none [] = refl
left-none (texts ∷ ls) = ap (λ s. drop (length s) texts ∷ left_behind ls []) (through-none ls) ∙ ap (λ s. texts ∷ s) (left-none ls)

pub through-append : (ls : List (List (List ℕ))) (a b : List (Rose ItemLabel)) → through ls (a ++ b) ≡ through ls a ++ through (left_behind ls a) b
through-append [] a b = refl
through-append (texts ∷ ls) a b =
    ap (with_texts_before texts) (through-append ls a b) ∙ with_texts-append texts (through ls a) (through (left_behind ls a) b)

pub left-append : (ls : List (List (List ℕ))) (a b : List (Rose ItemLabel)) → left_behind ls (a ++ b) ≡ left_behind (left_behind ls a) b
left-append [] a b = refl
left-append (texts ∷ ls) a b =
    let one = through ls a in
    let other = through (left_behind ls a) b in
    ap (λ s. drop (length s) texts ∷ left_behind ls (a ++ b)) (through-append ls a b)
    ∙ ap (λ n. drop n texts ∷ left_behind ls (a ++ b)) (length-append one other)
    ∙ ap (λ s. s ∷ left_behind ls (a ++ b)) (sym (drop-all (length one) (length other) (length one + length other) texts refl))
    ∙ ap (λ s. drop (length other) (drop (length one) texts) ∷ s) (left-append ls a b)

-- the innermost level is the last
pub through-last : (ls : List (List (List ℕ))) (texts : List (List ℕ)) (items : List (Rose ItemLabel)) → through (ls ++ texts ∷ []) items ≡ through ls (with_texts_before texts items)
through-last [] texts items = refl
through-last (words ∷ ls) texts items = ap (with_texts_before words) (through-last ls texts items)

pub left-last : (ls : List (List (List ℕ))) (texts : List (List ℕ)) (items : List (Rose ItemLabel))
    → left_behind (ls ++ texts ∷ []) items ≡ left_behind ls (with_texts_before texts items) ++ drop (length items) texts ∷ []
left-last [] texts items = refl
left-last (words ∷ ls) texts items =
    ap (λ s. drop (length s) words ∷ left_behind (ls ++ texts ∷ []) items) (through-last ls texts items)
    ∙ ap (λ s. drop (length (through ls (with_texts_before texts items))) words ∷ s) (left-last ls texts items)

pub left-length : (ls : List (List (List ℕ))) (items : List (Rose ItemLabel)) → length (left_behind ls items) ≡ length ls
left-length [] items = refl
left-length (texts ∷ ls) items = ap suc (left-length ls items)

-- ---- UTF-8

pub are_utf8-append : (a b : List (Name × List ℕ)) → AreUtf8 a → AreUtf8 b → AreUtf8 (a ++ b)
are_utf8-append [] b u w = w
are_utf8-append (x ∷ a) b u w = (u.0, are_utf8-append a b u.1 w)

pub items_utf8-append : (a b : List (Rose ItemLabel)) → ItemsAreUtf8 (roses_of a) → ItemsAreUtf8 (roses_of b) → ItemsAreUtf8 (roses_of (a ++ b))
items_utf8-append [] b u w = w
items_utf8-append (x ∷ a) b u w = (u.0, items_utf8-append a b u.1 w)

pub items_utf8-pushed : (old new : List (Rose ItemLabel)) (x : Rose ItemLabel) → new ≡ old ++ x ∷ [] → ItemIsUtf8 x → ItemsAreUtf8 (roses_of old) → ItemsAreUtf8 (roses_of new)
items_utf8-pushed old new x is u w = subst (λ s. ItemsAreUtf8 (roses_of s)) (sym is) (items_utf8-append old (x ∷ []) w (u, tt))

pub items_utf8-front : (a b : List (Rose ItemLabel)) → ItemsAreUtf8 (roses_of (a ++ b)) → ItemsAreUtf8 (roses_of a) × ItemsAreUtf8 (roses_of b)
items_utf8-front [] b u = (tt, u)
items_utf8-front (x ∷ a) b u = let rest = items_utf8-front a b u.1 in ((u.0, rest.0), rest.1)

pub true-utf8 : IsUtf8 (codes "true")
true-utf8 = IsUtf8-from_ascii (codes "true") (search rules)

-- ---- items that were put

pub puts-none : (ls : List (List (List ℕ))) (r : Receiver) → Puts ls ls r r [] []
puts-none ls r = record {
  texts = sym (left-none ls);
  told = subst (Tells r r []) (sym (through-none ls)) (tells-none r);
  utf8 = subst (λ s. ItemsAreUtf8 (roses_of s)) (sym (through-none ls)) tt;
}

pub puts-both : (ks ls ms : List (List (List ℕ))) (a b c : Receiver) (xs ys : List (Name × List ℕ)) (items others : List (Rose ItemLabel)) → Puts ks ls a b xs items → Puts ls ms b c ys others → Puts ks ms a c (xs ++ ys) (items ++ others)
puts-both ks ls ms a b c xs ys items others one other =
    let first = through ks items in
    let second : through ls others ≡ through (left_behind ks items) others = ap (λ x. through x others) one.texts in
    let all : first ++ through ls others ≡ through ks (items ++ others) = ap (λ s. first ++ s) second ∙ sym (through-append ks items others) in
    record {
      texts = other.texts ∙ ap (λ x. left_behind x others) one.texts ∙ sym (left-append ks items others);
      told = subst (Tells a c (xs ++ ys)) all (tells-both a b c xs ys first (through ls others) one.told other.told);
      utf8 = subst (λ s. ItemsAreUtf8 (roses_of s)) all (items_utf8-append first (through ls others) one.utf8 other.utf8);
    }

pub puts-as : (ks ls : List (List (List ℕ))) (a b : Receiver) (xs : List (Name × List ℕ)) (items others : List (Rose ItemLabel)) → items ≡ others → Puts ks ls a b xs items → Puts ks ls a b xs others
puts-as ks ls a b xs items others same puts = subst (Puts ks ls a b xs) same puts

pub puts-same : (ks ks2 ls ls2 : List (List (List ℕ))) (a a2 b : Receiver) (xs : List (Name × List ℕ)) (items : List (Rose ItemLabel)) → ks ≡ ks2 → ls ≡ ls2 → a ≡ a2 → Puts ks ls a b xs items → Puts ks2 ls2 a2 b xs items
puts-same ks ks2 ls ls2 a a2 b xs items ek el ea puts =
    subst (λ x. Puts x ls2 a2 b xs items) ek (subst (λ x. Puts ks x a2 b xs items) el (subst (λ x. Puts ks ls x b xs items) ea puts))

-- the texts of one more level: the one that is next stands before the item
pub puts-inner : (ks ls : List (List (List ℕ))) (texts : List (List ℕ)) (a b : Receiver) (item : Rose ItemLabel) → Puts ks ls a b [] (text_item (first_text texts) ++ item ∷ [])
    → Puts (ks ++ texts ∷ []) (ls ++ drop 1 texts ∷ []) a b [] (item ∷ [])
puts-inner ks ls texts a b item puts =
    let same : text_item (first_text texts) ++ item ∷ [] ≡ with_texts_before texts (item ∷ []) = ap (λ s. s ++ item ∷ []) (text_item-first texts) ∙ sym (with_one texts item) in
    let all : through ks (text_item (first_text texts) ++ item ∷ []) ≡ through (ks ++ texts ∷ []) (item ∷ []) = ap (through ks) same ∙ sym (through-last ks texts (item ∷ [])) in
    record {
      texts = ap (λ s. s ++ drop 1 texts ∷ []) (puts.texts ∙ ap (left_behind ks) same) ∙ sym (left-last ks texts (item ∷ []));
      told = subst (Tells a b []) all puts.told;
      utf8 = subst (λ s. ItemsAreUtf8 (roses_of s)) all puts.utf8;
    }

-- what was put into a mixed type, and the text behind it
pub puts-mixed : (ks ms : List (List (List ℕ))) (texts : List (List ℕ)) (a b c : Receiver) (xs : List (Name × List ℕ)) (kids : Roses Plain)
    → Puts (ks ++ texts ∷ []) (left_behind ks (with_texts_before texts (items_in kids)) ++ drop (length (items_in kids)) texts ∷ []) a b xs (items_in kids)
    → Puts (left_behind ks (with_texts_before texts (items_in kids))) ms b c [] (text_item (first_text (drop (length (items_in kids)) texts)))
    → Puts ks ms a c xs (items_in (interleaved texts kids))
puts-mixed ks ms texts a b c xs kids inner last =
    let items = items_in kids in
    let before = with_texts_before texts items in
    let out : through (ks ++ texts ∷ []) items ≡ through ks before = through-last ks texts items in
    let first : Puts ks (left_behind ks before) a b xs before = record {
      texts = refl;
      told = subst (Tells a b xs) out inner.told;
      utf8 = subst (λ s. ItemsAreUtf8 (roses_of s)) out inner.utf8;
    } in
    let behind : text_item (first_text (drop (length items) texts)) ≡ text_at texts (length items) = text_item-first (drop (length items) texts) ∙ text_at-drop (length items) texts in
    puts-as ks ms a c xs (before ++ text_item (first_text (drop (length items) texts))) (items_in (interleaved texts kids))
    (ap (λ s. before ++ s) behind ∙ sym (interleaved-is texts kids))
    (subst (λ ys. Puts ks ms a c ys (before ++ text_item (first_text (drop (length items) texts)))) (append-nil xs)
    (puts-both ks (left_behind ks before) ms a b c xs [] before (text_item (first_text (drop (length items) texts))) first last))

-- ---- what was gained

pub gains-nothing : (c : Contents) → Gains c c nothing
gains-nothing c = record { puts = puts-none (levels c) c.receiver; utf8 = tt }

pub gains-both : (a b c : Contents) (g h : Given) → Gains a b g → Gains b c h → Gains a c (both g h)
gains-both a b c g h one other = record {
  puts = puts-as (levels a) (levels c) a.receiver c.receiver (g.attributes ++ h.attributes) (items_in g.kids ++ items_in h.kids) (items_in (joined g.kids h.kids)) (sym (items_in-joined g.kids h.kids))
      (puts-both (levels a) (levels b) (levels c) a.receiver b.receiver c.receiver g.attributes h.attributes (items_in g.kids) (items_in h.kids) one.puts other.puts);
  utf8 = are_utf8-append g.attributes h.attributes one.utf8 other.utf8;
}

-- an attribute that was told
pub gains-attribute : (old new : Contents) (name : Name) (words : List ℕ) → levels new ≡ levels old → IsUtf8 words → Tells old.receiver new.receiver ((name, words) ∷ []) [] → Gains old new (given ((name, words) ∷ []) none)
gains-attribute old new name words el u tells = record {
  puts = record {
    texts = el ∙ sym (left-none (levels old));
    told = subst (Tells old.receiver new.receiver ((name, words) ∷ [])) (sym (through-none (levels old))) tells;
    utf8 = subst (λ s. ItemsAreUtf8 (roses_of s)) (sym (through-none (levels old))) tt;
  };
  utf8 = (u, tt);
}

pub gains-empty : (c : Contents) (words : List ℕ) → (length words == 0) ≡ true → Gains c c (given [] (text_before words none))
gains-empty c [] e = gains-nothing c
gains-empty c (b ∷ bs) e = let none_there = eqb-true (length (b ∷ bs)) 0 e in absurd (omega (arith, none_there))

pub gains-text : (old room new : Contents) (words : List ℕ) → (length words == 0) ≡ false → IsUtf8 words → MakesRoom old room → levels new ≡ levels room
    → Tells room.receiver new.receiver [] (node (Text words 0) none ∷ []) → Gains old new (given [] (text_before words none))
gains-text old room new words some u makes el tells =
    let item = node (Text words 0) none in
    record {
      puts = puts-as (levels old) (levels new) old.receiver new.receiver [] (item ∷ []) (text_item words) (sym (text_item-some words some))
          (subst (λ ls. Puts (levels old) ls old.receiver new.receiver [] (item ∷ [])) (sym el) (makes new.receiver item (u, tt) tells));
      utf8 = tt;
    }

-- the texts are as many levels as before
pub gains-length : (old new : Contents) (g : Given) → Gains old new g → length new.texts.items ≡ length old.texts.items
gains-length old new g gains =
    sym (length-map new.texts.items (λ texts. map value_text texts)) ∙ ap length gains.puts.texts ∙ left-length (levels old) (items_in g.kids) ∙ length-map old.texts.items (λ texts. map value_text texts)

-- a level more
levels-last : (outer : List (List (Rose ValueLabel))) (texts : List (Rose ValueLabel))
    → map (λ texts. map value_text texts) (outer ++ texts ∷ []) ≡ map (λ texts. map value_text texts) outer ++ map value_text texts ∷ []
levels-last [] texts = refl
levels-last (words ∷ outer) texts = ap (λ s. map value_text words ∷ s) (levels-last outer texts)

-- the texts of each level, from the outermost on
pub room-made : (old popped next room new : Contents) (texts left : List (Rose ValueLabel))
    → old.texts.items ≡ popped.texts.items ++ texts ∷ [] → popped.receiver ≡ old.receiver
    → Gains popped next (given [] (text_before (first_text (map value_text texts)) none)) → left ≡ drop 1 texts → MakesRoom next room
    → new.texts.items ≡ room.texts.items ++ left ∷ [] → new.receiver ≡ room.receiver → MakesRoom old new
room-made old popped next room new texts left popped_texts popped_receiver gains left_is makes new_texts new_receiver = λ after item u tells.
    let words = map value_text texts in
    let before : levels popped ++ words ∷ [] ≡ levels old = sym (ap (λ (s : List (List (Rose ValueLabel))). map (λ texts. map value_text texts) s) popped_texts ∙ levels-last popped.texts.items texts) in
    let behind : levels room ++ drop 1 words ∷ [] ≡ levels new =
    ap (λ s. levels room ++ s ∷ []) (drop-map value_text 1 texts ∙ ap (map value_text) (sym left_is))
    ∙ sym (ap (λ (s : List (List (Rose ValueLabel))). map (λ texts. map value_text texts) s) new_texts ∙ levels-last room.texts.items left) in
    puts-same (levels popped ++ words ∷ []) (levels old) (levels room ++ drop 1 words ∷ []) (levels new) popped.receiver old.receiver after [] (item ∷ [])
    before behind popped_receiver
    (puts-inner (levels popped) (levels room) words popped.receiver after item
    (puts-both (levels popped) (levels next) (levels room) popped.receiver next.receiver after [] [] (text_item (first_text words)) (item ∷ []) gains.puts
    (makes after item u (subst (λ r. Tells r after [] (item ∷ [])) new_receiver tells))))

-- no texts are due
pub room-there : (old new : Contents) → levels old ≡ [] → levels new ≡ [] → new.receiver ≡ old.receiver → MakesRoom old new
room-there old new eo en er = λ after item u tells.
    puts-same [] (levels old) [] (levels new) old.receiver old.receiver after [] (item ∷ []) (sym eo) (sym en) refl
    (record { texts = refl; told = subst (λ r. Tells r after [] (item ∷ [])) er tells; utf8 = (u, tt) })

pub no-items : {A : Type 0} (xs : List A) → (length xs == 0) ≡ true → xs ≡ []
no-items [] e = refl
no-items (x ∷ xs) e = let none_there = eqb-true (length (x ∷ xs)) 0 e in absurd (omega (arith, none_there))

pub room-empty : (c : Contents) → (length c.texts.items == 0) ≡ true → MakesRoom c c
room-empty c e =
    let none_due : levels c ≡ [] = ap (λ (s : List (List (Rose ValueLabel))). map (λ texts. map value_text texts) s) (no-items c.texts.items e) in
    room-there c c none_due none_due refl

-- ---- elements

pub begun : (old room new : Contents) (outer : Outer) (name : Name) → MakesRoom old room → outer.texts.items ≡ room.texts.items → new.texts.items ≡ [] → Opens room.receiver new.receiver name outer.tag → Begins old new name outer
begun old room new outer name makes eo en opens = record {
  texts = en;
  outside = room.receiver;
  opens = opens;
  puts = λ after item u tells.
      subst (λ (s : List (List (Rose ValueLabel))). Puts (levels old) (map (λ texts. map value_text texts) s) old.receiver after [] (item ∷ [])) (sym eo) (makes after item u tells);
}

inner-puts : (old begun mid : Contents) (outer : Outer) (name : Name) (g : Given) → Begins old begun name outer → Gains begun mid g → Puts [] (levels mid) begun.receiver mid.receiver g.attributes (items_in g.kids)
inner-puts old begun mid outer name g begins gains =
    subst (λ ls. Puts ls (levels mid) begun.receiver mid.receiver g.attributes (items_in g.kids)) (ap (λ (s : List (List (Rose ValueLabel))). map (λ texts. map value_text texts) s) begins.texts) gains.puts

pub element-gained : (old begun mid new : Contents) (outer : Outer) (name : Name) (g : Given) → Begins old begun name outer → Gains begun mid g
    → Closes outer.tag mid.receiver new.receiver → new.texts.items ≡ outer.texts.items → Gains old new (given [] (more (element_of name g) none))
element-gained old begun mid new outer name g begins gains closes et =
    let items = items_in g.kids in
    let top = unplaced (element_of name g) in
    let outside = begins.outside in
    let inner = inner-puts old begun mid outer name g begins gains in
    let whole = tells-element outside begun.receiver mid.receiver new.receiver name outer.tag g.attributes items begins.opens inner.told closes in
    let same : node (Element name g.attributes [] 0) (roses_of items) ≡ top = ap (λ s. node (Element name g.attributes [] 0) s) (roses_of-list_of (all_unplaced g.kids)) in
    let utf8 : ItemIsUtf8 top = (gains.utf8, subst ItemsAreUtf8 (roses_of-list_of (all_unplaced g.kids)) inner.utf8) in
    record {
      puts = subst (λ (s : List (List (Rose ValueLabel))). Puts (levels old) (map (λ texts. map value_text texts) s) old.receiver new.receiver [] (top ∷ [])) (sym et)
          (begins.puts new.receiver top utf8 (subst (λ t. Tells outside new.receiver [] (t ∷ [])) same whole));
      utf8 = tt;
    }

text-utf8 : (words : List ℕ) → IsUtf8 words → ItemsAreUtf8 (all_unplaced (text_before words none))
text-utf8 [] u = tt
text-utf8 (b ∷ bs) u = ((u, tt), tt)

pub text_item-empty : (words : List ℕ) → (length words == 0) ≡ true → text_item words ≡ []
text_item-empty [] e = refl
text_item-empty (b ∷ bs) e = let none_there = eqb-true (length (b ∷ bs)) 0 e in absurd (omega (arith, none_there))

-- an element in which just a text stands
pub text-element-gained : (old room new : Contents) (name : Name) (words : List ℕ) → IsUtf8 words → MakesRoom old room → levels new ≡ levels room
    → TakesElement room.receiver new.receiver name [] (text_item words)
    → Gains old new (given [] (more (element_of name (given [] (text_before words none))) none))
text-element-gained old room new name words u makes el takes =
    let top = unplaced (element_of name (given [] (text_before words none))) in
    let same : node (Element name [] [] 0) (roses_of (text_item words)) ≡ top =
    ap (λ s. node (Element name [] [] 0) s) (roses_of-list_of (all_unplaced (text_before words none))) in
    record {
      puts = subst (λ ls. Puts (levels old) ls old.receiver new.receiver [] (top ∷ [])) (sym el)
          (makes new.receiver top (tt, text-utf8 words u) (subst (λ t. Tells room.receiver new.receiver [] (t ∷ [])) same takes));
      utf8 = tt;
    }

pub element-open : (old begun mid : Contents) (outer : Outer) (name : Name) (g : Given) → Begins old begun name outer → Gains begun mid g → IsOpen mid.receiver outer.tag
element-open old begun mid outer name g begins gains =
    let inner = inner-puts old begun mid outer name g begins gains in
    still-open begins.outside begun.receiver mid.receiver name outer.tag g.attributes (items_in g.kids) begins.opens inner.told

-- ---- elements that are written where no text waits

pub plain-is : (b : Bool) (c : Contents) → OnTrue b (IsPlain c) → b ≡ true → IsPlain c
plain-is true c is e = is
plain-is false c is e = absurd (cc)

pub plain-begun : (old new : Contents) (tag : OpenTag) (name : Name) → IsPlain old → new.texts.items ≡ old.texts.items → Opens old.receiver new.receiver name (open_element.Text tag)
    → Begins old new name (outer_of old tag)
plain-begun old new tag name plain same opens = begun old old new (outer_of old tag) name (room-empty old (ap (λ s. length s == 0) plain.1)) refl (same ∙ plain.1) opens

none-in : (xs : List (List (Rose ValueLabel))) → length xs ≡ 0 → xs ≡ []
none-in [] e = refl
none-in (x ∷ xs) e = absurd (omega (arith, e))

pub none-left : (begun mid : Contents) (g : Given) → begun.texts.items ≡ [] → Gains begun mid g → mid.texts.items ≡ []
none-left begun mid g none_begun gains = none-in mid.texts.items (gains-length begun mid g gains ∙ ap length none_begun)

-- ---- mixed types

pub mixed-ended : (old popped new : Contents) (texts : List (Rose ValueLabel)) → old.texts.items ≡ popped.texts.items ++ texts ∷ [] → popped.receiver ≡ old.receiver
    → Gains popped new (given [] (text_before (first_text (map value_text texts)) none)) → (outer : List (List (List ℕ))) (words : List (List ℕ)) → levels old ≡ outer ++ words ∷ []
    → GainsIn outer old new (given [] (text_before (first_text words) none))
mixed-ended old popped new texts et er gains outer words is =
    let there : levels old ≡ levels popped ++ map value_text texts ∷ [] = ap (λ (s : List (List (Rose ValueLabel))). map (λ texts. map value_text texts) s) et ∙ levels-last popped.texts.items texts in
    let same = same_from_push (levels popped) outer (map value_text texts) words (sym there ∙ is) in
    let next : text_item (first_text (map value_text texts)) ≡ text_item (first_text words) = ap (λ s. text_item (first_text s)) same.1 in
    record {
      puts = puts-as outer (levels new) old.receiver new.receiver [] (text_item (first_text (map value_text texts))) (text_item (first_text words)) next
          (puts-same (levels popped) outer (levels new) (levels new) popped.receiver old.receiver new.receiver [] (text_item (first_text (map value_text texts))) same.0 refl er gains.puts);
      utf8 = tt;
    }

pub no-level : (old : Contents) → length old.texts.items ≡ 0 → (outer : List (List (List ℕ))) (words : List (List ℕ)) → levels old ≡ outer ++ words ∷ [] → ⊥
no-level old none_there outer words is =
    let count : length (levels old) ≡ length old.texts.items = length-map old.texts.items (λ texts. map value_text texts) in
    absurd (omega (arith, count, none_there, ap length is, length_push outer words))

pub mixed-gained : (old begun mid new : Contents) (texts : List (Rose ValueLabel)) (g : Given) → begun.receiver ≡ old.receiver → begun.texts.items ≡ old.texts.items ++ texts ∷ []
    → Gains begun mid g → ((outer : List (List (List ℕ))) (words : List (List ℕ)) → levels mid ≡ outer ++ words ∷ [] → GainsIn outer mid new (given [] (text_before (first_text words) none)))
    → Gains old new (mixed_gives (map value_text texts) g)
mixed-gained old begun mid new texts g er et gains ends =
    let words = map value_text texts in
    let items = items_in g.kids in
    let before = with_texts_before words items in
    let level : levels begun ≡ levels old ++ words ∷ [] = ap (λ (s : List (List (Rose ValueLabel))). map (λ texts. map value_text texts) s) et ∙ levels-last old.texts.items texts in
    let inner : Puts (levels old ++ words ∷ []) (levels mid) old.receiver mid.receiver g.attributes items =
    puts-same (levels begun) (levels old ++ words ∷ []) (levels mid) (levels mid) begun.receiver old.receiver mid.receiver g.attributes items level refl er gains.puts in
    let left : levels mid ≡ left_behind (levels old) before ++ drop (length items) words ∷ [] = inner.texts ∙ left-last (levels old) words items in
    let last = ends (left_behind (levels old) before) (drop (length items) words) left in
    record {
      puts = puts-mixed (levels old) (levels new) words old.receiver mid.receiver new.receiver g.attributes g.kids (subst (λ ls. Puts (levels old ++ words ∷ []) ls old.receiver mid.receiver g.attributes items) left inner) last.puts;
      utf8 = gains.utf8;
    }

pub gains-no-nil : (c : Contents) (b : Bool) → b ≡ false → Gains c c (with_nil b nothing)
gains-no-nil c true e = absurd (cc)
gains-no-nil c false e = gains-nothing c

-- nil stands before all attributes
pub nil-both : (b : Bool) (g : Given) → both (with_nil b nothing) g ≡ with_nil b g
nil-both true g = refl
nil-both false g = refl

-- ---- what is known where all went well

pub on_ok : {A E : Type 0} (r : Result A E) (P Q : Type 0) → (P → Q) → OnOk r P → OnOk r Q
on_ok (Ok a) P Q f h = f h
on_ok (Err e) P Q f h = tt

pub on_ok-two : {A E : Type 0} (r : Result A E) (P Q S : Type 0) → (P → Q → S) → OnOk r P → OnOk r Q → OnOk r S
on_ok-two (Ok a) P Q S f p q = f p q
on_ok-two (Err e) P Q S f p q = tt

pub if_ok : {A E : Type 0} (r : Result A E) (P Q : A → Type 0) → ((a : A) → P a → Q a) → IfOk r P → IfOk r Q
if_ok (Ok a) P Q f h = f a h
if_ok (Err e) P Q f h = tt
