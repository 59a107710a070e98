use Rattle.std.proofs.Common.{◌<◌, ℕ, Bool, true, List, Option, arith, length, set, sym, subst}
use Rattle.std.proofs.lemmas.List.{length-map}
use Rattle.link_names.specs.declared.faults.LinkingFault.{LinkingFault}
use Rattle.simple_types.specs.declared.simples.Simple.{Simple}
use Rattle.link_names.specs.declared.definitions.SimpleType.{SimpleType}
use Rattle.link_names.specs.Cycles.{edges}
use Rattle.link_names.specs.CyclesSeen.{definition_of, definitions_of}
use Rattle.link_names.specs.Tables.{told_by}
use Rattle.link_names.proofs.First.{definition_at}
use Rattle.link_simple.specs.Private.Leaving.{LeftBy}
use Rattle.link_simple.specs.Making.{IsLeft}
use Rattle.link_simple.specs.Private.Ordering.{IsReady}
use Rattle.link_simple.specs.Private.Parts.{entries_of, entry_of, AreEntriesSound}
use Rattle.link_simple.specs.Private.Working.{space_left, fault_left, Stands}
use Rattle.link_simple.proofs.Filling.{left_filled}
use Rattle.link_simple.proofs.Standing.{stands_next, left_fits, left_sound, left_faults}
use Rattle.link_simple.proofs.Varied.{varied_at}
use Rattle.link_simple.proofs.working.Work.make.Goals as goal

-- a type that isn't done has a number among them
module _
    (xs : List SimpleType) (es : List (Option Simple)) (found : Option LinkingFault) (n : ℕ) (done : List Bool) (h : Stands (definitions_of xs) (entries_of es) done found)
    (ready : IsReady (edges (definitions_of xs)) done n) where
  among : n < length xs
  among =
      let marks = h.marks in
      let types = length-map xs definition_of in
      let within = ready.within in
      omega (arith, marks, types, within)

  entry_among : n < length es
  entry_among =
      let marks = h.marks in
      let long = h.long in
      let entries = length-map es entry_of in
      let within = ready.within in
      omega (arith, marks, long, entries, within)

pub bounds-definitions-n : goal.bounds-definitions-n
bounds-definitions-n c =
    let w = c.args.self.now in
    let r = c.requires.ready in
    among c.args.definitions.now w.entries.items w.found c.args.n r.0 r.1 r.2

pub left_of-requires-clause-sound : goal.left_of-requires-clause-sound
left_of-requires-clause-sound c = subst (λ es. AreEntriesSound (entries_of es)) (sym c.deref.ensures.value) c.requires.ready.1.sound

pub left_of-requires-clause-varied : goal.left_of-requires-clause-varied
left_of-requires-clause-varied c =
    let w = c.args.self.now in
    let n = c.args.n in
    let r = c.requires.ready in
    let lt = among c.args.definitions.now w.entries.items w.found n r.0 r.1 r.2 in
    let is = definition_at c.args.definitions.now n c.index-definitions-n.result lt c.index-definitions-n.is in
    varied_at (definitions_of c.args.definitions.now) n (definition_of c.index-definitions-n.result) c.requires.varied is

pub put-requires : goal.put-requires
put-requires c =
    let w = c.args.self.now in
    let r = c.requires.ready in
    entry_among c.args.definitions.now w.entries.items w.found c.args.n r.0 r.1 r.2

pub returns : goal.returns
returns c =
    let w = c.args.self.now in
    let n = c.args.n in
    let xs = c.args.definitions.now in
    let ds = definitions_of xs in
    let made = entries_of w.entries.items in
    let d = definition_of c.index-definitions-n.result in
    let l = c.in_ok-left.left in
    let leaves = subst (λ ns. LeftBy (IsLeft ns made d.place.file d.how) l) c.requires.numbers
    (subst (λ es. LeftBy (IsLeft (told_by c.args.numbers.now) (entries_of es) d.place.file d.how) l) c.deref.ensures.value c.in_ok-left.ensures) in
    λ done h ready.
    let lt = among xs w.entries.items w.found n done h ready in
    let is = definition_at xs n c.index-definitions-n.result lt c.index-definitions-n.is in
    let next = stands_next ds made done w.found h n d is ready.free ready.within ready.parts (space_left l) (fault_left d.body l)
    (left_fits ds made d l leaves) (left_sound ds made d l leaves) (left_faults ds made d l leaves)
    (left_filled ds made d l leaves (c.requires.told n d is)) in
    subst (λ m. Stands ds m (set done n true) c.put.new.self.found) (sym c.put.ensures.entries)
    (subst (Stands ds (set made n (space_left l)) (set done n true)) (sym c.put.ensures.found) next)
