-- The encoding instructions of parts and assignments: without a fault they are printed as they are written.
use Rattle.std.proofs.Common.{◌≡◌, ◌≢◌, ℕ, ◌<◌, Bool, true, not, Option, Some, None, List, [], ◌∷◌, ◌++◌, All, refl, sym, ap, ◌∙◌, arith, codes}
use Rattle.std.specs.Prelude.{nat_le, nat_lt, ◌==◌}
use Rattle.std.specs.List.{list_all, flat_map}
use Rattle.std.specs.Str.{is_utf8}
use Rattle.std.specs.Prelude.{chars}
use Rattle.std.proofs.lemmas.Bool.{true≢false, leb-true}
use Rattle.std.proofs.lemmas.Bool.Decides.{nat_tests}
use Rattle.std.proofs.lemmas.List.Elements.{All-nil, All-cons}
use Rattle.base_texts.specs.WhiteSpace.{has_bytes}
use Rattle.base_texts.specs.Characters.{is_xml_char}
use Rattle.asn_types.specs.declared.marks.Instruction.{Instruction}
use Rattle.asn_types.specs.declared.types.Form.{Form}
use Rattle.module_print.specs.Instructions.{instruction, instructions, bracketed, rank}
use Rattle.module_text.specs.declared.marks.PartMark.{PartMark}
use Rattle.module_text.specs.declared.marks.PartMarkKind.{PartMarkKind}
use Rattle.module_text.specs.declared.marks.PartMarkKind.TheVariants as part_mark
use Rattle.module_text.specs.Ranks.{rank_of_part_mark, part_marks_from}
use Rattle.module_text.specs.Texts.{part_mark_text, part_marks_text}
use Rattle.module_text.specs.Plain.{ArePartMarks}
use Rattle.module_text.specs.Marks.{part_mark_may, is_rank, part_mark_stands}
use Rattle.module_text.specs.Told.{is_told_so}
use Rattle.module_text.specs.Faults.{part_mark_faults}
use Rattle.module_text.specs.Meaning.{part_mark_meant, part_marks_meant}
use Rattle.module_text.specs.Printable.{comes_before, are_in_order, is_of_part, MayHave, HasPartMarks}
use Rattle.module_text.proofs.PrintedBounds.{unless-none, front-none, behind-none, and-first, and-second}
use Rattle.module_text.proofs.Ranking.{AreFrom, AreBelow, listed}
use Rattle.module_laws.proofs.NameLaws.{NameBytes, and-both, told-xml, told-other, told-same}

-- ---- one instruction

rank-same : (g : List ℕ) (k : PartMarkKind) → rank (part_mark_meant g k) ≡ rank_of_part_mark k
rank-same g part_mark.Attribute = refl
rank-same g part_mark.Untagged = refl
rank-same g (part_mark.Name name) = refl
rank-same g (part_mark.Namespace space) = refl

rank-low : (g : List ℕ) (k : PartMarkKind) → rank (part_mark_meant g k) < 12
rank-low g part_mark.Attribute = omega arith
rank-low g part_mark.Untagged = omega arith
rank-low g (part_mark.Name name) = omega arith
rank-low g (part_mark.Namespace space) = omega arith

of_part : (g : List ℕ) (k : PartMarkKind) → is_of_part (part_mark_meant g k) ≡ true
of_part g part_mark.Attribute = refl
of_part g part_mark.Untagged = refl
of_part g (part_mark.Name name) = refl
of_part g (part_mark.Namespace space) = refl

comes-same : (g : List ℕ) (k : PartMarkKind) (n : Instruction) → comes_before (part_mark_meant g k) n ≡ nat_lt (rank_of_part_mark k) (rank n)
comes-same g part_mark.Attribute n = refl
comes-same g part_mark.Untagged n = refl
comes-same g (part_mark.Name name) n = refl
comes-same g (part_mark.Namespace space) n = refl

text-same : (simple : Bool) (g : List ℕ) (f : Form) (k : PartMarkKind) → part_mark_may simple g k ≡ true → instruction g f (part_mark_meant g k) ≡ part_mark_text k
text-same simple g f part_mark.Attribute e = refl
text-same simple g f part_mark.Untagged e = refl
text-same simple g f (part_mark.Name name) e =
    ap (λ text. bracketed (codes "NAME" ++ text)) (told-same g name (and-second (has_bytes g) (is_told_so g name) e))
text-same simple g f (part_mark.Namespace space) e = refl

some_bytes : (g : List ℕ) → has_bytes g ≡ true → g ≢ []
some_bytes [] e = λ f. true≢false (sym e)
some_bytes (b ∷ bs) e = λ f. absurd (cc)

may-have : (simple : Bool) (g : List ℕ) → NameBytes g → (k : PartMarkKind) → part_mark_may simple g k ≡ true → MayHave g (part_mark_meant g k)
may-have simple g h part_mark.Attribute e = tt
may-have simple g h part_mark.Untagged e = tt
may-have simple g h (part_mark.Name name) e =
    let so = and-second (has_bytes g) (is_told_so g name) e in
    (some_bytes g (and-first (has_bytes g) (is_told_so g name) e), told-other g name so, told-xml g name h so)
may-have simple g h (part_mark.Namespace space) e = and-second (is_utf8 space) (list_all is_xml_char (chars space)) e

-- ---- all

abbrev stands_here : Bool → List ℕ → Option ℕ → PartMark → List PartMark → Type 0
stands_here simple g before m ms =
    (not (is_rank before (rank_of_part_mark m.kind)) ≡ true) × (part_mark_may simple g m.kind ≡ true)
    × (part_mark_faults simple g (Some (rank_of_part_mark m.kind)) ms ≡ [])

stands : (simple : Bool) (g : List ℕ) (before : Option ℕ) (m : PartMark) (ms : List PartMark) → part_mark_faults simple g before (m ∷ ms) ≡ [] → stands_here simple g before m ms
stands simple g before m ms e =
    let ok = unless-none (part_mark_stands simple g before m) m.at _ (front-none _ (part_mark_faults simple g (Some (rank_of_part_mark m.kind)) ms) e) in (
      and-first (not (is_rank before (rank_of_part_mark m.kind))) (part_mark_may simple g m.kind) ok,
      and-second (not (is_rank before (rank_of_part_mark m.kind))) (part_mark_may simple g m.kind) ok,
      behind-none _ (part_mark_faults simple g (Some (rank_of_part_mark m.kind)) ms) e,
    )

from_rank : (g : List ℕ) (text : Instruction → List ℕ) (k : ℕ) (ms : List PartMark) → part_marks_from k ms ≡ true → AreFrom rank text k (part_marks_meant g ms)
from_rank g text k [] e = tt
from_rank g text k (m ∷ ms) e =
    let r = rank_of_part_mark m.kind in (
      rw (rank-same g m.kind) (leb-true k r (and-first (nat_le k r) (part_marks_from r ms) e)),
      rw (rank-same g m.kind) (from_rank g text r ms (and-second (nat_le k r) (part_marks_from r ms) e)),
    )

below_rank : (g : List ℕ) (text : Instruction → List ℕ) (ms : List PartMark) → AreBelow rank text 12 (part_marks_meant g ms)
below_rank g text [] = tt
below_rank g text (m ∷ ms) = (rank-low g m.kind, below_rank g text ms)

texts-same : (simple : Bool) (g : List ℕ) (f : Form) (before : Option ℕ) (ms : List PartMark) → part_mark_faults simple g before ms ≡ []
    → flat_map (instruction g f) (part_marks_meant g ms) ≡ part_marks_text ms
texts-same simple g f before [] e = refl
texts-same simple g f before (m ∷ ms) e =
    let s = stands simple g before m ms e in
    ap (λ text. text ++ flat_map (instruction g f) (part_marks_meant g ms)) (text-same simple g f m.kind s.1)
    ∙ ap (λ text. part_mark_text m.kind ++ text) (texts-same simple g f (Some (rank_of_part_mark m.kind)) ms s.2)

rank_above : (r s : ℕ) → nat_le r s ≡ true → not (r == s) ≡ true → nat_lt r s ≡ true
rank_above r s le apart = grind (arith, nat_tests)

in_order : (simple : Bool) (g : List ℕ) (least : ℕ) (before : Option ℕ) (ms : List PartMark) → part_marks_from least ms ≡ true → part_mark_faults simple g before ms ≡ []
    → are_in_order (part_marks_meant g ms) ≡ true
in_order simple g least before [] ranked e = refl
in_order simple g least before (m ∷ []) ranked e = refl
in_order simple g least before (m ∷ n ∷ ms) ranked e =
    let r = rank_of_part_mark m.kind in
    let q = rank_of_part_mark n.kind in
    let s = stands simple g before m (n ∷ ms) e in
    let t = stands simple g (Some r) n ms s.2 in
    let others = and-second (nat_le least r) (part_marks_from r (n ∷ ms)) ranked in
    let above = rank_above r q (and-first (nat_le r q) (part_marks_from q ms) others) t.0 in
    and-both (comes_before (part_mark_meant g m.kind) (part_mark_meant g n.kind)) (are_in_order (part_marks_meant g (n ∷ ms)))
    (comes-same g m.kind (part_mark_meant g n.kind) ∙ ap (λ k. nat_lt r k) (rank-same g n.kind) ∙ above)
    (in_order simple g r (Some r) (n ∷ ms) others s.2)

all_of_part : (g : List ℕ) (ms : List PartMark) → list_all is_of_part (part_marks_meant g ms) ≡ true
all_of_part g [] = refl
all_of_part g (m ∷ ms) = and-both (is_of_part (part_mark_meant g m.kind)) (list_all is_of_part (part_marks_meant g ms)) (of_part g m.kind) (all_of_part g ms)

all_may : (simple : Bool) (g : List ℕ) → NameBytes g → (before : Option ℕ) (ms : List PartMark) → part_mark_faults simple g before ms ≡ [] → All (MayHave g) (part_marks_meant g ms)
all_may simple g h before [] e = All-nil (MayHave g)
all_may simple g h before (m ∷ ms) e =
    let s = stands simple g before m ms e in
    All-cons (MayHave g) (part_mark_meant g m.kind) (part_marks_meant g ms) (may-have simple g h m.kind s.1) (all_may simple g h (Some (rank_of_part_mark m.kind)) ms s.2)

pub part_marks-printed : (simple : Bool) (g : List ℕ) (f : Form) (ms : List PartMark) → ArePartMarks ms → part_mark_faults simple g None ms ≡ []
    → instructions g f (part_marks_meant g ms) ≡ part_marks_text ms
part_marks-printed simple g f ms ranked e =
    listed rank (instruction g f) 12 0 (part_marks_meant g ms) (from_rank g (instruction g f) 0 ms ranked) (below_rank g (instruction g f) ms)
    ∙ texts-same simple g f None ms e

pub part_marks-printable : (simple : Bool) (g : List ℕ) (ms : List PartMark) → NameBytes g → ArePartMarks ms → part_mark_faults simple g None ms ≡ []
    → HasPartMarks g (part_marks_meant g ms)
part_marks-printable simple g ms h ranked e = record {
  order = in_order simple g 0 None ms ranked e;
  part = all_of_part g ms;
  names = all_may simple g h None ms e;
}
