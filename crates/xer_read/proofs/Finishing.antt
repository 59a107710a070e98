-- The walk from the root to its end: what is put down then is the value of the document.
use Rattle.std.proofs.Common.{◌≡◌, ℕ, ◌-◌, ◌^◌, ◌≤◌, ◌<◌, min, Some, refl, sym, ap, subst, arith}
use Rattle.std.specs.Prelude.{slice_get, Result, Ok, Err, MatchResult}
use Rattle.std.specs.Option.{option_map}
use Rattle.base_trees.specs.Rose.{Rose, label_of, node_count, shown_count}
use Rattle.base_flat_trees.specs.Zips.{Zip, added}
use Rattle.simple_types.specs.declared.labels.ValueLabel.{ValueLabel}
use Rattle.xml_items.specs.declared.label.ItemLabel.{ItemLabel}
use Rattle.xml_read.specs.Sound.{levels}
use Rattle.schema_components.specs.declared.components.ElementDecl.{ElementDecl}
use Rattle.schema_components.specs.Components.{Set}
use Rattle.schema_components.specs.SetParts.{parts_of}
use Rattle.validity_rules.specs.Asked.{asked_at}
use Rattle.validity_rules.specs.Valid.{HasName}
use Rattle.validity_rules.specs.Faults.{FaultBy, FirstFault}
use Rattle.validity_check.specs.declared.error.CheckError.{CheckError}
use Rattle.validity_check.specs.Answers.{Tells, IsValid}
use Rattle.validity_check.proofs.Rooting.{root_judged}
use Rattle.value_builder.specs.Built.{Built, nothing_of, Stands}
use Rattle.value_builder.proofs.Counts.{count-added}
use Rattle.xer_read.specs.Private.Given.{IsRead, IsRootRead}
use Rattle.xer_read.specs.Private.Putting.{ValuePut}

-- a root of the name that is declared
pub root-read : (s : Set) (d : ℕ) (e : ElementDecl) → slice_get s.elements d ≡ Some e → (t : Rose ItemLabel) → HasName (Some e.name) (label_of t) → levels t ≤ 64 → (z : Zip ValueLabel) (new : Built) (r : Result (Unit {0}) CheckError)
    → MatchResult r (λ _. ValuePut (IsRead s d t) z new) (Tells (FaultBy (asked_at (parts_of s)) d t)) → MatchResult r (λ _. ValuePut (IsRootRead s d t) z new) (Tells (FirstFault (parts_of s) d t))
root-read s d e g t name low z new (Ok x) h = record {
  value = h.value;
  holds = record { named = subst (λ o. HasName o (label_of t)) (sym (ap (option_map (λ (x : ElementDecl). x.name)) g)) name; shallow = low; read = h.holds };
  stands = h.stands;
}
root-read s d e g t name low z new (Err x) h = let refused : Result (Unit {0}) CheckError = Err x in root_judged s d e g t name refused h

-- it is valid
pub root-valid : (s : Set) (d : ℕ) (t : Rose ItemLabel) (z : Zip ValueLabel) (new : Built) (r : Result (Unit {0}) CheckError) (F : CheckError → Type 0) → MatchResult r (λ _. ValuePut (IsRootRead s d t) z new) F → MatchResult r (λ _. IsValid s d t) F
root-valid s d t z new (Ok x) F h = (h.holds.read.treated, (h.holds.named, h.holds.read.valid))
root-valid s d t z new (Err e) F h = h

-- ---- the builder

-- nothing stands in one that is new
pub starts : (most : ℕ) (b : Built) → b ≡ nothing_of most → Stands b (nothing_of 0).kept
starts most b e = subst (λ x. Stands x (nothing_of 0).kept) (sym e) (record { nodes = λ some. refl; kept = λ some few. refl })

counted : (v : Rose ValueLabel) (b : Built) → Stands b (added v (nothing_of 0).kept) → 1 ≤ b.most → b.nodes ≡ min (node_count v) (2 ^ 64 - 1)
counted v b s some = let n = s.nodes some in let all = count-added v (nothing_of 0).kept in omega (arith, n, all)

pub few-nodes : (v : Rose ValueLabel) (b : Built) → Stands b (added v (nothing_of 0).kept) → b.most ≡ 1048576 → b.nodes ≤ b.most → node_count v ≤ 1048576
few-nodes v b s most few = let n = counted v b s (omega (arith, most)) in omega (arith, n, most, few)

pub many-nodes : (v : Rose ValueLabel) (b : Built) → Stands b (added v (nothing_of 0).kept) → b.most ≡ 1048576 → (b.nodes ≤ b.most → ⊥) → (1048576 < node_count v) × (b.nodes ≡ shown_count v)
many-nodes v b s most many = let n = counted v b s (omega (arith, most)) in (omega (arith, n, most, many), n)
