use Rattle.std.proofs.Common.{◌≡◌, map, sym, ap, ap₂, ◌∙◌, subst}
use Rattle.std.specs.Prelude.{IfOk, Result, Ok, Err}
use Rattle.simple_types.specs.Seen.{space_of}
use Rattle.schema_components.specs.Documents.{doc_of}
use Rattle.link_names.specs.SimpleTypes.{simple_types}
use Rattle.link_set.specs.Builtins.{used_builtins}
use Rattle.link_set.specs.Few.{AreFew}
use Rattle.link_set.specs.Numbering.{numbers_in}
use Rattle.link_set.specs.Parts.{parts_made}
use Rattle.link_set.specs.Private.Told.{listed_by}
use Rattle.link_set.specs.Sets.{SetParts, set_with, named_spaces, simples, spelled_complex, spelled_attribute}
use Rattle.link_set.specs.declared.parts.SetParts.{SetParts as KeptParts}
use Rattle.link_set.proofs.Soundness.{sound_simples}
use Rattle.link_set.proofs.parts.set_parts.Goals as goal

pub of-requires-2-clause-few : goal.of-requires-2-clause-few
of-requires-2-clause-few c = subst AreFew (sym c.in_ok-listed.ensures) c.requires.few

pub declared-requires : goal.declared-requires
declared-requires c = subst AreFew (sym c.in_ok-listed.ensures) c.requires.few

pub spelled-requires-clause-sound : goal.spelled-requires-clause-sound
spelled-requires-clause-sound c =
    sound_simples c.in_ok-simples.simples.items (simple_types (map doc_of c.args.docs.now)) c.args.spaces.items c.deref-2.result.now c.in_ok-simples.ensures c.requires.sound

each_ok : {E : Type 0} (r : Result KeptParts E) (P Q : KeptParts → Type 0) → ((p : KeptParts) → P p → Q p) → IfOk r P → IfOk r Q
each_ok (Ok p) P Q all h = all p h
each_ok (Err e) P Q all h = h

pub returns-clause-set : goal.returns-clause-set
returns-clause-set c =
    let docs = map doc_of c.args.docs.now in
    let spaces = map space_of c.args.spaces.items in
    let listed = c.in_ok-listed.ensures in
    let numbers = c.in_ok-numbers.ensures ∙ ap numbers_in listed in
    let declared = c.in_ok-declarations.ensures.numbered in
    let used = c.deref-2.ensures.value ∙ c.in_ok-used.ensures in
    let kinds : named_spaces c.in_ok-simples.simples.items ≡ simples (simple_types docs) spaces (used_builtins (listed_by c.in_ok-listed.listed))
    = c.in_ok-simples.ensures ∙ ap (simples (simple_types docs) spaces) used in
    let Is : SetParts → Type 0 = λ parts. IfOk c.spelled.result (λ (made : KeptParts). parts_made made ≡ parts) in
    subst Is (ap₂ (λ ls ns. set_with docs ls ns spaces) listed numbers)
    (each_ok c.spelled.result _ _
    (λ p is i. record {
      elements = (ap (λ v. v.items) is.0 ∙ declared.0) i;
      globals = (is.1 ∙ declared.1) i;
      simples = (ap (λ v. named_spaces v.items) is.2 ∙ kinds) i;
      complexes = (is.3 ∙ ap₂ (λ ts cs. map (spelled_complex ts) cs) kinds declared.2) i;
      attributes = (is.4 ∙ ap₂ (λ ts gs. map (spelled_attribute ts) gs) kinds declared.3) i;
    })
    c.spelled.ensures.spelled)
