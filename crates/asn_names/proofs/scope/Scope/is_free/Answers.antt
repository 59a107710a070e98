use Rattle.std.proofs.Common.{◌≡◌, sym, ◌∙◌, ap, true, false, refl}
use Rattle.std.specs.Prelude.{bytes_eq}
use Rattle.std.specs.List.{list_any}
use Rattle.std.proofs.lemmas.Bool.{true≢false}
use Rattle.asn_names.proofs.Apart.{lacks-Contains, free_reference, taken_by}
use Rattle.asn_names.proofs.scope.Scope.is_free.Goals as goal

pub returns-then-contains : goal.returns-then-contains
returns-then-contains c =
    let has : list_any (bytes_eq c.args.name.now) c.args.self.now ≡ true = ap (λ ks. list_any (bytes_eq c.args.name.now) ks) (sym c.self.view_is) ∙ sym c.contains.ensures ∙ c.if-contains.true in
    (λ t. absurd (true≢false (sym t)), λ f. absurd (taken_by c.args.kind _ _ has f))

pub returns-in-Reference : goal.returns-in-Reference
returns-in-Reference c =
    let lacks : list_any (bytes_eq c.args.name.now) c.args.self.now ≡ false = ap (λ ks. list_any (bytes_eq c.args.name.now) ks) (sym c.self.view_is) ∙ sym c.contains.ensures ∙ c.if-contains.false in
    rw c.in-Reference.is (free_reference _ _ c.is_reserved.result lacks (rw c.bytes.ensures.bytes at c.is_reserved.ensures))

pub returns-in-Identifier : goal.returns-in-Identifier
returns-in-Identifier c =
    let lacks : list_any (bytes_eq c.args.name.now) c.args.self.now ≡ false = ap (λ ks. list_any (bytes_eq c.args.name.now) ks) (sym c.self.view_is) ∙ sym c.contains.ensures ∙ c.if-contains.false in
    rw c.in-Identifier.is (λ _. (lacks-Contains _ _ lacks, tt), λ _. refl)
