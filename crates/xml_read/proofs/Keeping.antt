-- What a state keeps, so that its tree becomes items.
use Rattle.std.proofs.Common.{◌≡◌, ℕ, ◌+◌, ◌≤◌, ◌<◌, Bool, true, false, List, [], ◌∷◌, ◌++◌, length, refl, sym, ap, subst, ◌∙◌, arith}
use Rattle.std.specs.Prelude.{◌&&◌, not, IsUtf8, max}
use Rattle.std.specs.Str.{chars}
use Rattle.std.specs.List.{list_all}
use Rattle.std.proofs.lemmas.Str.{chars-append, IsUtf8-append, IsUtf8-nil, chars-nil, is_utf8-from_IsUtf8}
use Rattle.base_texts.specs.Limits.{has_xml_chars, is_empty}
use Rattle.base_trees.specs.Rose.{Rose, node, Roses, none, more, roses_of, Allowed, AllowedAll, node_count, count_all}
use Rattle.base_texts.specs.Characters.{is_xml_char}
use Rattle.xml_items.specs.declared.label.ItemLabel.{ItemLabel}
use Rattle.xml_items.specs.declared.label.ItemLabel.TheVariants.{Element, Text}
use Rattle.xml_items.specs.Labels.{MayHave}
use Rattle.xml_read.specs.Sound.{is_sound_label, is_text, begins_with_text, is_sound, are_sound, is_element, levels, levels_all, AreItems}
use Rattle.xml_read.specs.Private.States.{Above, State, nothing, with_text, kids_of_state, element_of}

-- ---- booleans

pub and_parts : (a b : Bool) → (a && b) ≡ true → (a ≡ true) × (b ≡ true)
and_parts true b e = (refl, e)
and_parts false b e = absurd cc

pub and_both : (a b : Bool) → a ≡ true → b ≡ true → (a && b) ≡ true
and_both a b e f = rw (e, f) refl

-- ---- lists of nodes

abbrev pub is_text_node : Rose ItemLabel → Bool
is_text_node (node label kids) = is_text label

abbrev pub ends_with_text : List (Rose ItemLabel) → Bool
ends_with_text [] = false
ends_with_text (k ∷ []) = is_text_node k
ends_with_text (k ∷ l ∷ ks) = ends_with_text (l ∷ ks)

alone_sound : (k : Rose ItemLabel) → is_sound k ≡ true → are_sound (more k none) ≡ true
alone_sound (node (Element n a d p) kids) e = rw e refl
alone_sound (node (Text t p) kids) e = rw e refl

more_sound : (j l : Rose ItemLabel) (ls : Roses ItemLabel) → is_sound j ≡ true → (is_text_node j && is_text_node l) ≡ false → are_sound (more l ls) ≡ true → are_sound (more j (more l ls)) ≡ true
more_sound (node label kids) (node other others) ls e f g = rw (e, f, g) refl

more_parts : (j : Rose ItemLabel) (ls : Roses ItemLabel) → are_sound (more j ls) ≡ true → (is_sound j ≡ true) × (not (is_text_node j && begins_with_text ls) ≡ true) × (are_sound ls ≡ true)
more_parts (node label kids) ls e =
    let one = and_parts _ (are_sound ls) e in
    let two = and_parts (is_sound (node label kids)) (not (is_text label && begins_with_text ls)) one.0 in
    (two.0, two.1, one.1)

begins : (l : Rose ItemLabel) (ls : Roses ItemLabel) → begins_with_text (more l ls) ≡ is_text_node l
begins (node label kids) ls = refl

not_true : (b : Bool) → not b ≡ true → b ≡ false
not_true true e = absurd cc
not_true false e = refl

pub sound-push : (ks : List (Rose ItemLabel)) (k : Rose ItemLabel) → are_sound (roses_of ks) ≡ true → is_sound k ≡ true → (ends_with_text ks && is_text_node k) ≡ false → are_sound (roses_of (ks ++ k ∷ [])) ≡ true
sound-push [] k e f g = alone_sound k f
sound-push (j ∷ []) k e f g = more_sound j k none (more_parts j none e).0 g (alone_sound k f)
sound-push (j ∷ l ∷ ks) k e f g =
    let parts = more_parts j (more l (roses_of ks)) e in
    more_sound j l (roses_of (ks ++ k ∷ [])) parts.0 (subst (λ (b : Bool). (is_text_node j && b) ≡ false) (begins l (roses_of ks)) (not_true (is_text_node j && begins_with_text (more l (roses_of ks))) parts.1)) (sound-push (l ∷ ks) k parts.2 f g)

pub allowed-push : (ks : List (Rose ItemLabel)) (k : Rose ItemLabel) → AllowedAll MayHave (roses_of ks) → Allowed MayHave k → AllowedAll MayHave (roses_of (ks ++ k ∷ []))
allowed-push [] k f g = (g, tt)
allowed-push (j ∷ ks) k f g = (f.0, allowed-push ks k f.1 g)

pub levels-push : (ks : List (Rose ItemLabel)) (k : Rose ItemLabel) → levels_all (roses_of (ks ++ k ∷ [])) ≡ max (levels_all (roses_of ks)) (levels k)
levels-push [] k = omega arith
levels-push (j ∷ ks) k = omega (arith, levels-push ks k)

pub count-push : (ks : List (Rose ItemLabel)) (k : Rose ItemLabel) → count_all (roses_of (ks ++ k ∷ [])) ≡ count_all (roses_of ks) + node_count k
count-push [] k = omega arith
count-push (j ∷ ks) k = omega (arith, count-push ks k)

pub ends-push : (ks : List (Rose ItemLabel)) (k : Rose ItemLabel) → ends_with_text (ks ++ k ∷ []) ≡ is_text_node k
ends-push [] k = refl
ends-push (j ∷ []) k = refl
ends-push (j ∷ l ∷ ks) k = ends-push (l ∷ ks) k

-- nodes below so many open elements
pub record Kids (depth : ℕ) (kids : List (Rose ItemLabel)) : Type 0 where
  pub allowed : AllowedAll MayHave (roses_of kids)
  pub sound : are_sound (roses_of kids) ≡ true
  pub shallow : levels_all (roses_of kids) + depth ≤ 64

pub no_kids : (depth : ℕ) → depth ≤ 64 → Kids depth []
no_kids depth h = record { allowed = tt; sound = refl; shallow = omega arith }

pub kids-push : (depth : ℕ) (ks : List (Rose ItemLabel)) (k : Rose ItemLabel) → Kids depth ks → Allowed MayHave k → is_sound k ≡ true → levels k + depth ≤ 64 → (ends_with_text ks && is_text_node k) ≡ false → Kids depth (ks ++ k ∷ [])
kids-push depth ks k old allowed sound shallow apart = record {
  allowed = allowed-push ks k old.allowed allowed;
  sound = sound-push ks k old.sound sound apart;
  shallow = omega (arith, levels-push ks k, old.shallow);
}

-- ---- texts

pub record IsFine (text : List ℕ) : Type 0 where
  pub utf8 : IsUtf8 text
  pub fine : list_all is_xml_char (chars text) ≡ true

pub fine_chars : (text : List ℕ) → IsFine text → has_xml_chars text ≡ true
fine_chars text f = and_both _ _ (is_utf8-from_IsUtf8 text f.utf8) f.fine

pub nothing_fine : IsFine []
nothing_fine = record { utf8 = IsUtf8-nil; fine = ap (list_all is_xml_char) chars-nil }

list_all-append : (p : ℕ → Bool) (xs ys : List ℕ) → list_all p xs ≡ true → list_all p ys ≡ true → list_all p (xs ++ ys) ≡ true
list_all-append p [] ys e f = f
list_all-append p (x ∷ xs) ys e f = let h = and_parts (p x) (list_all p xs) e in and_both (p x) (list_all p (xs ++ ys)) h.0 (list_all-append p xs ys h.1 f)

pub fine-append : (a b : List ℕ) → IsFine a → IsFine b → IsFine (a ++ b)
fine-append a b f g = record {
  utf8 = IsUtf8-append a b f.utf8 g.utf8;
  fine = ap (list_all is_xml_char) (chars-append a b f.utf8) ∙ list_all-append is_xml_char (chars a) (chars b) f.fine g.fine;
}

abbrev pub text_count : List ℕ → ℕ
text_count [] = 0
text_count (b ∷ bs) = 1

and_false_l : (a b : Bool) → a ≡ false → (a && b) ≡ false
and_false_l a b e = rw e refl

and_false_r : (a b : Bool) → b ≡ false → (a && b) ≡ false
and_false_r true b e = e
and_false_r false b e = refl

pub kids-text : (depth : ℕ) (ks : List (Rose ItemLabel)) (text : List ℕ) (at : ℕ) → Kids depth ks → depth ≤ 64 → ends_with_text ks ≡ false → IsFine text → Kids depth (with_text ks text at)
kids-text depth ks [] at old within apart fine = old
kids-text depth ks (b ∷ bs) at old within apart fine =
    kids-push depth ks (node (Text (b ∷ bs) at) none) old (refl, tt) (rw (fine_chars (b ∷ bs) fine) refl) (omega arith) (and_false_l (ends_with_text ks) true apart)

pub count-text : (ks : List (Rose ItemLabel)) (text : List ℕ) (at : ℕ) → count_all (roses_of (with_text ks text at)) ≡ count_all (roses_of ks) + text_count text
count-text ks [] at = omega arith
count-text ks (b ∷ bs) at = omega (arith, count-push ks (node (Text (b ∷ bs) at) none))

-- ---- states

pub record Frame (depth : ℕ) (a : Above) : Type 0 where
  pub kids : Kids depth a.before
  pub label : is_sound_label (Element a.name a.attributes a.declares a.at) ≡ true
  pub room : depth < 64

abbrev pub Frames : List Above → Type 0
Frames [] = Unit {0}
Frames (a ∷ above) = Frame (length above) a × (above ≡ [] → a.before ≡ []) × Frames above

abbrev pub count_above : List Above → ℕ
count_above [] = 0
count_above (a ∷ above) = 1 + count_all (roses_of a.before) + count_above above

abbrev pub nodes : State → ℕ
nodes s = count_above s.above + count_all (roses_of s.kids) + text_count s.text

pub record Root (s : State) : Type 0 where
  pub root : Rose ItemLabel
  pub above : s.above ≡ []
  pub kids : s.kids ≡ root ∷ []
  pub element : is_element root ≡ true

-- a state in front of this place
pub record Good (s : State) (at : ℕ) : Type 0 where
  pub frames : Frames s.above
  pub kids : Kids (length s.above) s.kids
  pub apart : ends_with_text s.kids ≡ false
  pub fine : IsFine s.text
  pub no_text : s.above ≡ [] → s.text ≡ []
  pub one : s.ended ≡ true → Root s
  pub before : s.above ≡ [] → s.ended ≡ false → s.kids ≡ []
  pub few : nodes s ≤ at

pub good_start : (at : ℕ) → Good nothing at
good_start at = record {
  frames = tt;
  kids = no_kids 0 (omega arith);
  apart = refl;
  fine = nothing_fine;
  no_text = λ e. refl;
  one = λ e. absurd cc;
  before = λ e f. refl;
  few = omega arith;
}

-- ---- steps

pub good_passed : (s : State) (first : Bool) (n : ℕ) (at later : ℕ) → Good s at → at ≤ later
    → Good (record { above = s.above; kids = s.kids; text = s.text; text_at = s.text_at; ended = s.ended; first = first; brackets = n }) later
good_passed s first n at later good le = record {
  frames = good.frames;
  kids = good.kids;
  apart = good.apart;
  fine = good.fine;
  no_text = good.no_text;
  one = λ e. (let r = good.one e in record { root = r.root; above = r.above; kids = r.kids; element = r.element });
  before = good.before;
  few = omega (arith, good.few);
}

within : (above : List Above) → Frames above → length above ≤ 64
within [] f = omega arith
within (a ∷ above) f = omega (arith, f.0.room)

pub kids_text : (s : State) (at : ℕ) → Good s at → Kids (length s.above) (kids_of_state s)
kids_text s at good = kids-text (length s.above) s.kids s.text s.text_at good.kids (within s.above good.frames) good.apart good.fine

no_kids_text : (s : State) (at : ℕ) → Good s at → s.ended ≡ false → s.above ≡ [] → kids_of_state s ≡ []
no_kids_text s at good e f = rw (good.before f e, good.no_text f) refl

pub good_opened : (s : State) (a : Above) (text_at at later : ℕ) → Good s at → at < later → s.ended ≡ false → length s.above < 64 → a.before ≡ kids_of_state s → is_sound_label (Element a.name a.attributes a.declares a.at) ≡ true
    → Good (record { above = a ∷ s.above; kids = []; text = []; text_at = text_at; ended = s.ended; first = false; brackets = 0 }) later
good_opened s a text_at at later good lt going room before_is label = record {
  frames = (record { kids = subst (Kids (length s.above)) (sym before_is) (kids_text s at good); label = label; room = room }, (λ e. before_is ∙ no_kids_text s at good going e), good.frames);
  kids = no_kids (length (a ∷ s.above)) (omega (arith, room));
  apart = refl;
  fine = nothing_fine;
  no_text = λ e. refl;
  one = λ e. absurd cc;
  before = λ e f. refl;
  few = omega (arith, good.few, count-text s.kids s.text s.text_at, ap (λ (ks : List (Rose ItemLabel)). count_all (roses_of ks)) before_is);
}

is_empty_is : {A : Type 0} (xs : List A) → is_empty xs ≡ true → xs ≡ []
is_empty_is [] e = refl
is_empty_is (x ∷ xs) e = absurd cc

pub good_emptied : (s : State) (a : Above) (text_at at later : ℕ) → Good s at → at < later → s.ended ≡ false → length s.above < 64 → is_sound_label (Element a.name a.attributes a.declares a.at) ≡ true
    → Good (record { above = s.above; kids = kids_of_state s ++ element_of a [] ∷ []; text = []; text_at = text_at; ended = is_empty s.above; first = false; brackets = 0 }) later
good_emptied s a text_at at later good lt going room label = record {
  frames = good.frames;
  kids = kids-push (length s.above) (kids_of_state s) (element_of a []) (kids_text s at good) (tt, tt) (rw label refl) (omega (arith, room)) (and_false_r (ends_with_text (kids_of_state s)) false refl);
  apart = ends-push (kids_of_state s) (element_of a []);
  fine = nothing_fine;
  no_text = λ e. refl;
  one = λ e. (let empty : s.above ≡ [] = is_empty_is s.above e in record { root = element_of a []; above = empty; kids = ap (λ (ks : List (Rose ItemLabel)). ks ++ element_of a [] ∷ []) (no_kids_text s at good going empty); element = refl });
  before = λ e f. absurd (let yes : is_empty s.above ≡ true = ap is_empty e in cc);
  few = omega (arith, good.few, count-text s.kids s.text s.text_at, count-push (kids_of_state s) (element_of a []));
}

pub good_closed : (s : State) (a : Above) (above : List Above) (text_at at later : ℕ) → Good s at → at < later → s.above ≡ a ∷ above
    → Good (record { above = above; kids = a.before ++ element_of a (kids_of_state s) ∷ []; text = []; text_at = text_at; ended = is_empty above; first = false; brackets = 0 }) later
good_closed s a above text_at at later good lt is =
    let frames : Frames (a ∷ above) = subst Frames is good.frames in
    let kids : Kids (length (a ∷ above)) (kids_of_state s) = subst (λ (x : List Above). Kids (length x) (kids_of_state s)) is (kids_text s at good) in
    let element = element_of a (kids_of_state s) in
    record {
      frames = frames.2;
      kids = kids-push (length above) a.before element frames.0.kids (tt, kids.allowed) (and_both _ _ frames.0.label kids.sound) (omega (arith, kids.shallow)) (and_false_r (ends_with_text a.before) false refl);
      apart = ends-push a.before element;
      fine = nothing_fine;
      no_text = λ e. refl;
      one = λ e. (let empty : above ≡ [] = is_empty_is above e in record { root = element; above = empty; kids = ap (λ (ks : List (Rose ItemLabel)). ks ++ element ∷ []) (frames.1 empty); element = refl });
      before = λ e f. absurd (let yes : is_empty above ≡ true = ap is_empty e in cc);
      few = omega (arith, good.few, ap count_above is, count-text s.kids s.text s.text_at, count-push a.before element);
    }

count_more : (a b : List ℕ) → text_count (a ++ b) ≤ text_count a + 1
count_more [] [] = omega arith
count_more [] (b ∷ bs) = omega arith
count_more (a ∷ aa) b = omega arith

pub good_written : (s : State) (text : List ℕ) (text_at n at later : ℕ) → Good s at → at < later → is_empty s.above ≡ false → IsFine text
    → Good (record { above = s.above; kids = s.kids; text = s.text ++ text; text_at = text_at; ended = s.ended; first = false; brackets = n }) later
good_written s text text_at n at later good lt inside fine = record {
  frames = good.frames;
  kids = good.kids;
  apart = good.apart;
  fine = fine-append s.text text good.fine fine;
  no_text = λ e. absurd (let yes : is_empty s.above ≡ true = ap is_empty e in cc);
  one = λ e. absurd (let yes : is_empty s.above ≡ true = ap is_empty (good.one e).above in cc);
  before = λ e f. absurd (let yes : is_empty s.above ≡ true = ap is_empty e in cc);
  few = omega (arith, good.few, count_more s.text text);
}

-- ---- at the end

root_kids : (s : State) (at : ℕ) (r : Root s) → Good s at → Kids 0 (r.root ∷ [])
root_kids s at r good = subst (λ (x : List (Rose ItemLabel)). Kids 0 x) r.kids (subst (λ (x : List Above). Kids (length x) s.kids) r.above good.kids)

pub root_allowed : (s : State) (at : ℕ) (r : Root s) → Good s at → Allowed MayHave r.root
root_allowed s at r good = (root_kids s at r good).allowed.0

pub items_of : (s : State) (at : ℕ) (r : Root s) → Good s at → at < 2147483648 → AreItems r.root
items_of s at r good few =
    let kids = root_kids s at r good in
    record {
      allowed = kids.allowed.0;
      element = r.element;
      sound = (more_parts r.root none kids.sound).0;
      shallow = omega (arith, kids.shallow);
      few = omega (arith, good.few, ap (λ (x : List (Rose ItemLabel)). count_all (roses_of x)) r.kids);
    }
