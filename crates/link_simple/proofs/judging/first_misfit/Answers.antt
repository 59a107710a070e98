use Rattle.std.proofs.Common.{◌≡◌, List, map, ap, ◌∙◌, subst, Option}
use Rattle.std.specs.Prelude.{IfOk}
use Rattle.base_texts.specs.declared.texts.Name.{Name}
use Rattle.schema_components.specs.Documents.{doc_of}
use Rattle.link_names.specs.Parts.{Part}
use Rattle.link_names.specs.WalkSeen.{parts_of}
use Rattle.link_names.specs.declared.faults.LinkingFault.{LinkingFault}
use Rattle.link_names.specs.Order.{IsFirstOf}
use Rattle.link_names.specs.Cycles.{SimpleNumbers, numbers_in}
use Rattle.link_names.specs.CyclesSeen.{definitions_of}
use Rattle.link_names.specs.SimpleTypes.{simple_types}
use Rattle.link_names.specs.Tables.{told_by}
use Rattle.link_simple.specs.Answering.{made_of}
use Rattle.link_simple.specs.Found.{found_in}
use Rattle.link_simple.specs.Standards.{Declared, faults_among, faults_by, named, declared_among}
use Rattle.link_simple.proofs.Misfits.{first_of_all}
use Rattle.link_simple.proofs.judging.first_misfit.Goals as goal

pub returns : goal.returns
returns c =
    let docs = map doc_of c.args.docs.now in
    let made = made_of c.args.simples.now in
    let ps = parts_of c.as_slice-parts.result.now in
    let same = ap parts_of c.as_slice-parts.ensures.value ∙ c.in_ok-parts.ensures in
    let numbers = c.in_ok-numbers.ensures ∙ ap numbers_in (ap definitions_of c.deref.ensures.value ∙ c.in_ok-definitions.ensures) in
    let names : found_in c.in_ok-declared.declared ≡ named (declared_among ps) = λ i a. c.in_ok-declared.ensures a i in
    let all : faults_among (told_by c.in_ok-numbers.numbers) made (found_in c.in_ok-declared.declared) ps ≡ faults_by docs made =
    ap (λ (ns : SimpleNumbers). faults_among ns made (found_in c.in_ok-declared.declared) ps) numbers
    ∙ ap (λ (names : Name → Option Declared). faults_among (numbers_in (simple_types docs)) made names ps) names
    ∙ ap (λ (qs : List Part). faults_among (numbers_in (simple_types docs)) made (named (declared_among qs)) qs) same in
    first_of_all docs c.args.simples.now c.requires.acyclic c.requires.made c.first_among.result
    (subst (λ (fs : List LinkingFault). IfOk c.first_among.result (IsFirstOf fs)) all c.first_among.ensures)
