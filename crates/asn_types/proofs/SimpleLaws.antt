-- A type stands for one simple type at most.
use Rattle.std.proofs.Common.{◌≡◌, Bool, true, false, cond, List, [], ◌∷◌, ◌++◌, refl, sym, ◌∙◌, ap, subst}
use Rattle.std.proofs.lemmas.List.{append-nil}
use Rattle.std.proofs.lemmas.List.Elements.{filter-append}
use Rattle.base_trees.specs.Rose.{Rose, node, Roses, roses_of}
use Rattle.base_trees.specs.Rose as rose
use Rattle.base_texts.specs.declared.white_space.WhiteSpace.{WhiteSpace}
use Rattle.base_texts.specs.declared.white_space.WhiteSpace.TheVariants.{Preserve, Replace, Collapse}
use Rattle.simple_types.specs.Space.{Space, Spaces, none, more, Booleans, Wholes, Numbers, Words, Characters, ListOf, UnionOf}
use Rattle.simple_types.specs.Sound.{Sound}
use Rattle.asn_types.specs.declared.marks.Instruction.{Instruction}
use Rattle.asn_types.specs.declared.marks.Instruction.TheVariants as mark
use Rattle.asn_types.specs.declared.marks.Told.TheVariants as told_
use Rattle.asn_types.specs.declared.types.TypeLabel.{TypeLabel}
use Rattle.asn_types.specs.Marks.{white_space_of}
use Rattle.asn_types.specs.Spaces.{space_at, spaces_at}
use Rattle.asn_types.specs.Simples.{counts, counting, white_space_marks, MapsTo, MapToEach, IsSimple}
use Rattle.asn_types.specs.Private.Telling.{told, beside, with_mark}

-- one more instruction
pub told-push : (xs : List Instruction) (m : Instruction) → told (xs ++ m ∷ []) ≡ beside (told xs) m
told-push [] m = refl
told-push (mark.Attribute ∷ []) m = refl
told-push (mark.Untagged ∷ []) m = refl
told-push (mark.Name n ∷ []) m = refl
told-push (mark.Namespace n ∷ []) m = refl
told-push (mark.UseNil ∷ []) m = refl
told-push (mark.EmbedValues ∷ []) m = refl
told-push (mark.UseOrder ∷ []) m = refl
told-push (mark.List ∷ []) m = refl
told-push (mark.UseUnion ∷ []) m = refl
told-push (mark.UseNumber ∷ []) m = refl
told-push (mark.WhiteSpace how ∷ []) m = refl
told-push (mark.Text item text ∷ []) m = refl
told-push (x ∷ y ∷ []) m = refl
told-push (x ∷ y ∷ z ∷ xs) m = refl

told-push_if : (b : Bool) (ys : List Instruction) (m : Instruction) → told (ys ++ cond b (m ∷ []) []) ≡ cond b (beside (told ys) m) (told ys)
told-push_if true ys m = told-push ys m
told-push_if false ys m = ap told (append-nil ys)

pub told-counting : (xs : List Instruction) (m : Instruction) → told (counting (xs ++ m ∷ [])) ≡ with_mark (told (counting xs)) m
told-counting xs m = ap told (filter-append counts xs (m ∷ [])) ∙ told-push_if (counts m) (counting xs) m

-- what is told alone
pub told-nothing : (ms : List Instruction) → told ms ≡ told_.Nothing → ms ≡ []
told-nothing [] h = refl
told-nothing (mark.WhiteSpace how ∷ []) h = cc
told-nothing (mark.Attribute ∷ []) h = cc
told-nothing (mark.Untagged ∷ []) h = cc
told-nothing (mark.Name n ∷ []) h = cc
told-nothing (mark.Namespace n ∷ []) h = cc
told-nothing (mark.UseNil ∷ []) h = cc
told-nothing (mark.EmbedValues ∷ []) h = cc
told-nothing (mark.UseOrder ∷ []) h = cc
told-nothing (mark.List ∷ []) h = cc
told-nothing (mark.UseUnion ∷ []) h = cc
told-nothing (mark.UseNumber ∷ []) h = cc
told-nothing (mark.Text item text ∷ []) h = cc
told-nothing (x ∷ y ∷ ys) h = cc

pub told-use_number : (ms : List Instruction) → told ms ≡ told_.UseNumber → ms ≡ mark.UseNumber ∷ []
told-use_number [] h = cc
told-use_number (mark.WhiteSpace how ∷ []) h = cc
told-use_number (mark.Attribute ∷ []) h = cc
told-use_number (mark.Untagged ∷ []) h = cc
told-use_number (mark.Name n ∷ []) h = cc
told-use_number (mark.Namespace n ∷ []) h = cc
told-use_number (mark.UseNil ∷ []) h = cc
told-use_number (mark.EmbedValues ∷ []) h = cc
told-use_number (mark.UseOrder ∷ []) h = cc
told-use_number (mark.List ∷ []) h = cc
told-use_number (mark.UseUnion ∷ []) h = cc
told-use_number (mark.UseNumber ∷ []) h = refl
told-use_number (mark.Text item text ∷ []) h = cc
told-use_number (x ∷ y ∷ ys) h = cc

pub told-list : (ms : List Instruction) → told ms ≡ told_.List → ms ≡ mark.List ∷ []
told-list [] h = cc
told-list (mark.WhiteSpace how ∷ []) h = cc
told-list (mark.Attribute ∷ []) h = cc
told-list (mark.Untagged ∷ []) h = cc
told-list (mark.Name n ∷ []) h = cc
told-list (mark.Namespace n ∷ []) h = cc
told-list (mark.UseNil ∷ []) h = cc
told-list (mark.EmbedValues ∷ []) h = cc
told-list (mark.UseOrder ∷ []) h = cc
told-list (mark.List ∷ []) h = refl
told-list (mark.UseUnion ∷ []) h = cc
told-list (mark.UseNumber ∷ []) h = cc
told-list (mark.Text item text ∷ []) h = cc
told-list (x ∷ y ∷ ys) h = cc

pub told-use_union : (ms : List Instruction) → told ms ≡ told_.UseUnion → ms ≡ mark.UseUnion ∷ []
told-use_union [] h = cc
told-use_union (mark.WhiteSpace how ∷ []) h = cc
told-use_union (mark.Attribute ∷ []) h = cc
told-use_union (mark.Untagged ∷ []) h = cc
told-use_union (mark.Name n ∷ []) h = cc
told-use_union (mark.Namespace n ∷ []) h = cc
told-use_union (mark.UseNil ∷ []) h = cc
told-use_union (mark.EmbedValues ∷ []) h = cc
told-use_union (mark.UseOrder ∷ []) h = cc
told-use_union (mark.List ∷ []) h = cc
told-use_union (mark.UseUnion ∷ []) h = refl
told-use_union (mark.UseNumber ∷ []) h = cc
told-use_union (mark.Text item text ∷ []) h = cc
told-use_union (x ∷ y ∷ ys) h = cc

-- the WHITESPACE of a type that stands for a simple type
pub white_space_of-marks : (ms : List Instruction) (how : WhiteSpace) → counting ms ≡ white_space_marks how → white_space_of ms ≡ how
white_space_of-marks [] Preserve h = refl
white_space_of-marks [] Replace h = cc
white_space_of-marks [] Collapse h = cc
white_space_of-marks (mark.Name n ∷ ms) how h = white_space_of-marks ms how h
white_space_of-marks (mark.Text item text ∷ ms) how h = white_space_of-marks ms how h
white_space_of-marks (mark.WhiteSpace w ∷ ms) Preserve h = cc
white_space_of-marks (mark.WhiteSpace w ∷ ms) Replace h = cc
white_space_of-marks (mark.WhiteSpace w ∷ ms) Collapse h = cc
white_space_of-marks (x ∷ ms) Preserve h = cc
white_space_of-marks (x ∷ ms) Replace h = cc
white_space_of-marks (x ∷ ms) Collapse h = cc

mutual
  pub maps-seen : (s : Space) (t : Rose TypeLabel) → MapsTo s t → s ≡ space_at t
  maps-seen Booleans (node l ts) h = rw h.0
  maps-seen (Wholes least greatest) (node l ts) h = rw h.0
  maps-seen (Numbers numbers) (node l ts) h = rw h.0
  maps-seen (Words how words) (node l ts) h = rw h.1.0 (ap (λ w. Words w words) (sym (white_space_of-marks l.marks how h.1.1)))
  maps-seen (Characters how least most class) (node l ts) h = rw h.0 (ap (λ w. Characters w least most class) (sym (white_space_of-marks l.marks how h.1)))
  maps-seen (ListOf item least most) (node l rose.none) h = absurd h.3
  maps-seen (ListOf item least most) (node l (rose.more t others)) h = rw h.1.0 (ap (λ s. ListOf s least most) (maps-seen item t h.3))
  maps-seen (UnionOf members) (node l ts) h = rw h.1.0 (ap UnionOf (each-maps-seen members ts h.3))

  pub each-maps-seen : (ss : Spaces) (ts : Roses TypeLabel) → MapToEach ss ts → ss ≡ spaces_at ts
  each-maps-seen none rose.none h = refl
  each-maps-seen (more s ss) (rose.more t ts) h = ap (λ x. more x ss) (maps-seen s t h.0) ∙ ap (more (space_at t)) (each-maps-seen ss ts h.1)
  each-maps-seen none (rose.more t ts) h = absurd h
  each-maps-seen (more s ss) rose.none h = absurd h

pub maps_once : (s u : Space) (t : Rose TypeLabel) → MapsTo s t → MapsTo u t → s ≡ u
maps_once s u t h k = maps-seen s t h ∙ sym (maps-seen u t k)

pub told-white_space : (ms : List Instruction) (how : WhiteSpace) → told ms ≡ told_.WhiteSpace how → ms ≡ mark.WhiteSpace how ∷ []
told-white_space [] how h = cc
told-white_space (mark.WhiteSpace w ∷ []) how h = cc
told-white_space (mark.Attribute ∷ []) how h = cc
told-white_space (mark.Untagged ∷ []) how h = cc
told-white_space (mark.Name n ∷ []) how h = cc
told-white_space (mark.Namespace n ∷ []) how h = cc
told-white_space (mark.UseNil ∷ []) how h = cc
told-white_space (mark.EmbedValues ∷ []) how h = cc
told-white_space (mark.UseOrder ∷ []) how h = cc
told-white_space (mark.List ∷ []) how h = cc
told-white_space (mark.UseUnion ∷ []) how h = cc
told-white_space (mark.UseNumber ∷ []) how h = cc
told-white_space (mark.Text item text ∷ []) how h = cc
told-white_space (x ∷ y ∷ ys) how h = cc

-- a type that stands for a simple type stands for that which its form tells
module _ (l : TypeLabel) (ts : Roses TypeLabel) (simple : IsSimple (node l ts)) where
  pub is_seen : (u : Space) → space_at (node l ts) ≡ u → Sound u × MapsTo u (node l ts)
  is_seen u e =
      let same = maps-seen simple.0 (node l ts) simple.2 ∙ e in
      (subst Sound same simple.1, subst (λ s. MapsTo s (node l ts)) same simple.2)
