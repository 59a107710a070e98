-- Types that are lent, and lists of parts.
use Rattle.std.proofs.Common.{◌≡◌, ℕ, zero, suc, ◌+◌, ◌<◌, ◌≤◌, arith, List, [], ◌∷◌, ◌++◌, length, drop, get_or, refl, sym, ap, ◌∙◌, Option, Some, None, Result, Ok, Err}
use Rattle.std.specs.Prelude.{IsSome, IfOk}
use Rattle.std.specs.Option.{option_map}
use Rattle.std.specs.Borrow.{Bor}
use Rattle.simple_types.specs.declared.simples.Simple.{Simple}
use Rattle.simple_types.specs.Seen.{space_of}
use Rattle.simple_types.specs.Sound.{Sound}
use Rattle.simple_types.specs.Space.{Space, Spaces, none, more}
use Rattle.simple_types.specs.Joining.{joined}
use Rattle.simple_types.proofs.Copies.{joined-none}
use Rattle.simple_facets.specs.Making.{AreEachSound, lent_spaces}
use Rattle.simple_facets.proofs.Counting.{cut, lent_more}
use Rattle.schema_components.specs.Raw.{Base}
use Rattle.link_names.specs.Cycles as cycles
use Rattle.link_simple.specs.declared.parts.Part.{Part}
use Rattle.link_simple.specs.Answering.{made_of}
use Rattle.link_simple.specs.Making.{entry_at, part_space, with_space}
use Rattle.link_simple.specs.Private.Parts.{entries_of, seen, seen_all, with_front}

pub entry_read : (entries : List (Option Simple)) (n : ℕ) (o : Option Simple) → n < length entries → o ≡ get_or entries n o → entry_at (entries_of entries) n ≡ option_map space_of o
entry_read [] n o lt is = absurd (omega (arith, lt))
entry_read (e ∷ es) zero o lt is = ap (option_map space_of) (sym is)
entry_read (e ∷ es) (suc n) o lt is = entry_read es n o (omega (arith, lt)) is

pub entry_past : (entries : List (Option Simple)) (n : ℕ) → length entries ≤ n → entry_at (entries_of entries) n ≡ None
entry_past [] n le = refl
entry_past (e ∷ es) zero le = absurd (omega (arith, le))
entry_past (e ∷ es) (suc n) le = entry_past es n (omega (arith, le))

-- where all types are made
pub made_read : (simples : List Simple) (n : ℕ) (s : Simple) → n < length simples → s ≡ get_or simples n s → entry_at (made_of simples) n ≡ Some (space_of s)
made_read [] n s lt is = absurd (omega (arith, lt))
made_read (x ∷ xs) zero s lt is = ap (λ y. Some (space_of y)) (sym is)
made_read (x ∷ xs) (suc n) s lt is = made_read xs n s (omega (arith, lt)) is

pub made_past : (simples : List Simple) (n : ℕ) → length simples ≤ n → entry_at (made_of simples) n ≡ None
made_past [] n le = refl
made_past (x ∷ xs) zero le = absurd (omega (arith, le))
made_past (x ∷ xs) (suc n) le = made_past xs n (omega (arith, le))

pub is_entry : (o : Option Simple) → IsSome (option_map space_of o) → IsSome o
is_entry None is = is
is_entry (Some simple) is = refl

joined_part : (ps : List Part) (p : Part) (rest : Spaces) → joined (seen_all ps) (more (seen p) rest) ≡ joined (seen_all (ps ++ p ∷ [])) rest
joined_part [] p rest = refl
joined_part (q ∷ ps) p rest = ap (more (seen q)) (joined_part ps p rest)

pub part_behind : (ps : List Part) (p : Part) (rest : Option Spaces) → with_front (seen_all ps) (with_space (Some (seen p)) rest) ≡ with_front (seen_all (ps ++ p ∷ [])) rest
part_behind ps p None = refl
part_behind ps p (Some rest) = ap Some (joined_part ps p rest)

pub part_missing : (front : Spaces) (rest : Option Spaces) → with_front front (with_space None rest) ≡ None
part_missing front None = refl
part_missing front (Some rest) = refl

pub all_behind : (ps : List Part) → with_front (seen_all ps) (Some none) ≡ Some (seen_all ps)
all_behind ps = ap Some (sym (joined-none (seen_all ps)))

pub part_sound : (ps : List Part) (p : Part) → AreEachSound (seen_all ps) → Sound (seen p) → AreEachSound (seen_all (ps ++ p ∷ []))
part_sound [] p each sound = (sound, tt)
part_sound (q ∷ ps) p each sound = (each.0, part_sound ps p each.1 sound)

-- one more part is lent
pub part_lent : (lent lent_now : List (Bor Simple)) (b : Bor Simple) (ps : List Part) (i : ℕ) (p : Part) → i < length ps → p ≡ get_or ps i p → space_of b.now ≡ seen p → lent_now ≡ lent ++ b ∷ []
    → joined (lent_spaces lent) (seen_all (drop i ps)) ≡ seen_all ps → joined (lent_spaces lent_now) (seen_all (drop (i + 1) ps)) ≡ seen_all ps
part_lent lent lent_now b ps i p lt is same pushed so_far =
    let rest = seen_all (drop (i + 1) ps) in
    ap (λ ls. joined (lent_spaces ls) rest) pushed ∙ sym (lent_more lent b rest) ∙ ap (λ s. joined (lent_spaces lent) (more s rest)) same
    ∙ sym (ap (λ qs. joined (lent_spaces lent) (seen_all qs)) (cut ps i p lt is))
    ∙ so_far

-- a type that is named is this one in each file
pub named_space : {E : Type 0} (ns : cycles.SimpleNumbers) (made : List (Option Space)) (file : ℕ) (b c : Base) (r : Result (Option Part) E)
    → IfOk r (λ found. (k : ℕ) → option_map seen found ≡ part_space ns made k c) → b ≡ c → IfOk r (λ found. option_map seen found ≡ part_space ns made file b)
named_space ns made file b c (Ok found) h is = h file ∙ sym (ap (part_space ns made file) is)
named_space ns made file b c (Err e) h is = tt
