-- What the steps of writing give.
use Rattle.std.proofs.Common.{Result, Ok, Err, Bool, true, false, true≢false, Bor, map, subst, ◌≡◌, ℕ, ◌+◌, ◌<◌, List, [], ◌∷◌, ◌++◌, length, drop, get_or, refl, sym, ◌∙◌, ap, arith, append_assoc}
use Rattle.std.specs.Prelude.{OnOk, IfOk, ◌^◌}
use Rattle.std.specs.Global.{Vec}
use Rattle.std.specs.List.{flat_map}
use Rattle.std.proofs.lemmas.List.{drop_more, append-nil}
use Rattle.base_texts.specs.declared.texts.Name.{Name}
use Rattle.base_trees.specs.Rose.{Rose, node, roses_of, label_of, kids_of}
use Rattle.base_trees.proofs.Roses.{roses_of-list_of, node-parts}
use Rattle.xml_items.specs.declared.label.ItemLabel.{ItemLabel}
use Rattle.xml_items.specs.declared.label.ItemLabel.TheVariants.{Element, Text}
use Rattle.xml_read.specs.Sound.{AreItems}
use Rattle.xml_write.specs.ReadBack.{ReadsAs}
use Rattle.xml_write.proofs.Document.{read_back}
use Rattle.xml_write.specs.declared.prefixes.Prefix.{Prefix}
use Rattle.xml_write.specs.Spaces.{prefixes, attribute_spaces, label_spaces, spaces, all_spaces}
use Rattle.xml_write.specs.Private.Binding.{entry_of, with_space, with_spaces}
use Rattle.xml_write.specs.Written.{text_escape, written_start, written_end, written_element, written_declaration, xml_declaration, spelled, all_spelled, written}

pub drop-item : {A : Type 0} (xs : List A) (i : ℕ) (x : A) → i < length xs → x ≡ get_or xs i x → drop i xs ≡ x ∷ drop (i + 1) xs
drop-item xs i x at here = drop_more xs i x at ∙ ap (λ y. y ∷ drop (i + 1) xs) (sym here)

-- ---- answers

pub OnOk-map : {A E : Type 0} (r : Result A E) (P Q : Type 0) → (P → Q) → OnOk r P → OnOk r Q
OnOk-map (Ok a) P Q f h = f h
OnOk-map (Err e) P Q f h = h

pub IfOk-map : {A E : Type 0} (P Q : A → Type 0) → ((a : A) → P a → Q a) → (r : Result A E) → IfOk r P → IfOk r Q
IfOk-map P Q f (Ok a) h = f a h
IfOk-map P Q f (Err e) h = h

-- a Vec is shorter than memory
pub vec_short : {A : Type 0} (v : Vec A) → length v.items < 2 ^ 64
vec_short v = omega (arith, v.ok.0, v.ok.1, v.small)

-- what is written of items is read back
pub reads_back : (root items : Rose ItemLabel) (text : List ℕ) → root ≡ items → AreItems items → text ≡ written root → length text < 2 ^ 64 → ReadsAs text items
reads_back root items text same are is short =
    let all : text ≡ written items = is ∙ ap written same in
    subst (λ (x : List ℕ). ReadsAs x items) (sym all) (read_back items are (subst (λ (x : List ℕ). length x < 2 ^ 64) all short))

-- ---- binding

pub with_spaces-append : (table : List (List ℕ × List ℕ)) (xs ys : List (List ℕ)) → with_spaces table (xs ++ ys) ≡ with_spaces (with_spaces table xs) ys
with_spaces-append table [] ys = refl
with_spaces-append table (x ∷ xs) ys = with_spaces-append (with_space table x) xs ys

pub bind-attribute : (before after whole : List (List ℕ × List ℕ)) (entries : List (Name × List ℕ)) (i : ℕ) (item : Name × List ℕ)
    → i < length entries → item ≡ get_or entries i item → after ≡ with_space before item.0.space
    → with_spaces before (attribute_spaces (drop i entries)) ≡ whole → with_spaces after (attribute_spaces (drop (i + 1) entries)) ≡ whole
bind-attribute before after whole entries i item at here is so_far =
    ap (λ t. with_spaces t (attribute_spaces (drop (i + 1) entries))) is ∙ ap (λ es. with_spaces before (attribute_spaces es)) (sym (drop-item entries i item at here)) ∙ so_far

pub spaces-kids : (t : Rose ItemLabel) → spaces t ≡ label_spaces (label_of t) ++ all_spaces (roses_of (kids_of t))
spaces-kids (node label kids) = ap (λ s. label_spaces label ++ all_spaces s) (sym (roses_of-list_of kids))

pub bind-label : (t : Rose ItemLabel) (before after : List (List ℕ × List ℕ)) (label : ItemLabel) (kids : List (Rose ItemLabel))
    → label ≡ label_of t → kids ≡ kids_of t → after ≡ with_spaces before (label_spaces label)
    → with_spaces after (all_spaces (roses_of kids)) ≡ with_spaces before (spaces t)
bind-label t before after label kids is below bound =
    ap (λ s. with_spaces s (all_spaces (roses_of kids))) bound
    ∙ sym (with_spaces-append before (label_spaces label) (all_spaces (roses_of kids)))
    ∙ ap (λ l. with_spaces before (label_spaces l ++ all_spaces (roses_of kids))) is
    ∙ ap (λ k. with_spaces before (label_spaces (label_of t) ++ all_spaces (roses_of k))) below
    ∙ ap (with_spaces before) (sym (spaces-kids t))

-- ---- writing

pub write-item : {A : Type 0} (f : A → List ℕ) (before after whole : List ℕ) (xs : List A) (i : ℕ) (x : A)
    → i < length xs → x ≡ get_or xs i x → after ≡ before ++ f x
    → before ++ flat_map f (drop i xs) ≡ whole → after ++ flat_map f (drop (i + 1) xs) ≡ whole
write-item f before after whole xs i x at here is so_far =
    ap (λ o. o ++ flat_map f (drop (i + 1) xs)) is
    ∙ append_assoc before (f x) (flat_map f (drop (i + 1) xs))
    ∙ ap (λ ys. before ++ flat_map f ys) (sym (drop-item xs i x at here))
    ∙ so_far

pub write-entry : (before after whole : List ℕ) (xs : List (Bor (List ℕ) × Prefix)) (i : ℕ) (d : Bor (List ℕ) × Prefix)
    → i < length xs → after ≡ before ++ written_declaration (entry_of (get_or xs i d))
    → before ++ flat_map written_declaration (map entry_of (drop i xs)) ≡ whole → after ++ flat_map written_declaration (map entry_of (drop (i + 1) xs)) ≡ whole
write-entry before after whole xs i d at is so_far =
    ap (λ o. o ++ flat_map written_declaration (map entry_of (drop (i + 1) xs))) is
    ∙ append_assoc before (written_declaration (entry_of (get_or xs i d))) (flat_map written_declaration (map entry_of (drop (i + 1) xs)))
    ∙ ap (λ ys. before ++ flat_map written_declaration (map entry_of ys)) (sym (drop_more xs i d at))
    ∙ so_far

tree-parts : (t : Rose ItemLabel) (label : ItemLabel) (kids : List (Rose ItemLabel)) → label ≡ label_of t → kids ≡ kids_of t → t ≡ node label (roses_of kids)
tree-parts t label kids is below =
    sym (node-parts t) ∙ ap (λ l. node l (roses_of (kids_of t))) (sym is) ∙ ap (λ ks. node label (roses_of ks)) (sym below)

-- the text of a node
pub spelled-text : (table : List (List ℕ × List ℕ)) (declarations : List ℕ) (t : Rose ItemLabel) (text : List ℕ) (at : ℕ)
    → Text text at ≡ label_of t → flat_map text_escape text ≡ spelled table declarations t
spelled-text table declarations t text at is =
    ap (spelled table declarations) (sym (tree-parts t (Text text at) (kids_of t) is refl))

module _ (table : List (List ℕ × List ℕ)) (declarations : List ℕ) (t : Rose ItemLabel) (name : Name) (attributes : List (Name × List ℕ)) (declares : List (List ℕ × List ℕ)) (at : ℕ)
    (kids : List (Rose ItemLabel)) (is : Element name attributes declares at ≡ label_of t) (below : kids ≡ kids_of t) where
  parts : spelled table declarations t ≡ written_element (written_start table declarations name attributes) (all_spelled table (roses_of kids)) (written_end table name) (roses_of kids)
  parts = ap (spelled table declarations) (tree-parts t (Element name attributes declares at) kids is below)

  pub spelled-empty : length kids ≡ 0 → written_start table declarations name attributes ++ 47 ∷ 62 ∷ [] ≡ spelled table declarations t
  spelled-empty none_there = sym (parts ∙ by kids none_there)
    where
      by : (ks : List (Rose ItemLabel)) → length ks ≡ 0
          → written_element (written_start table declarations name attributes) (all_spelled table (roses_of kids)) (written_end table name) (roses_of ks)
          ≡ written_start table declarations name attributes ++ 47 ∷ 62 ∷ []
      by [] e = refl
      by (k ∷ ks) e = absurd (omega arith)

  pub spelled-kids : 0 < length kids → written_start table declarations name attributes ++ 62 ∷ all_spelled table (roses_of kids) ++ written_end table name ≡ spelled table declarations t
  spelled-kids some = sym (parts ∙ by kids some)
    where
      by : (ks : List (Rose ItemLabel)) → 0 < length ks
          → written_element (written_start table declarations name attributes) (all_spelled table (roses_of kids)) (written_end table name) (roses_of ks)
          ≡ written_start table declarations name attributes ++ 62 ∷ all_spelled table (roses_of kids) ++ written_end table name
      by [] e = absurd (omega arith)
      by (k ∷ ks) e = refl

regroup : (old start all end : List ℕ) → (((old ++ start) ++ 62 ∷ []) ++ all) ++ end ≡ old ++ (start ++ 62 ∷ all ++ end)
regroup old start all end = simp append_assoc

-- there are kids
pub some_kids : (b : Bool) (kids : List (Rose ItemLabel)) → (kids ≡ [] → b ≡ true) → b ≡ false → 0 < length kids
some_kids b [] f e = absurd (true≢false (sym (f refl) ∙ e))
some_kids b (k ∷ ks) f e = omega arith

-- an element with kids, of which none are left to be written
pub written-kids : (table : List (List ℕ × List ℕ)) (old start end before out : List ℕ) (kids left : List (Rose ItemLabel))
    → left ≡ [] → before ≡ (old ++ start) ++ 62 ∷ [] → out ++ all_spelled table (roses_of left) ≡ before ++ all_spelled table (roses_of kids)
    → out ++ end ≡ old ++ (start ++ 62 ∷ all_spelled table (roses_of kids) ++ end)
written-kids table old start end before out kids left past was so_far =
    let done : out ≡ before ++ all_spelled table (roses_of kids) = sym (append-nil out) ∙ ap (λ ks. out ++ all_spelled table (roses_of ks)) (sym past) ∙ so_far in
    ap (λ o. o ++ end) (done ∙ ap (λ b. b ++ all_spelled table (roses_of kids)) was) ∙ regroup old start (all_spelled table (roses_of kids)) end

-- a whole document
pub written-parts : (items root : Rose ItemLabel) (table : List (List ℕ × List ℕ)) (declarations : List ℕ) → root ≡ items → table ≡ prefixes items → declarations ≡ flat_map written_declaration table
    → (xml_declaration ++ spelled table declarations root) ++ 10 ∷ [] ≡ written items
written-parts items root table declarations same found declared =
    ap (λ d. (xml_declaration ++ spelled table d root) ++ 10 ∷ []) declared
    ∙ ap (λ r. (xml_declaration ++ spelled table (flat_map written_declaration table) r) ++ 10 ∷ []) same
    ∙ ap (λ t. (xml_declaration ++ spelled t (flat_map written_declaration t) items) ++ 10 ∷ []) found
