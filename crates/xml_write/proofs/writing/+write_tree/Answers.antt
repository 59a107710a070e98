use Rattle.std.specs.List.{flat_map}
use Rattle.std.proofs.Common.{List, ℕ, map, ◌≡◌, ◌++◌, ◌∷◌, [], ◌<◌, length, refl, ap, sym, subst, ◌∙◌}
use Rattle.base_trees.specs.Rose.{Rose, roses_of, kids_of}
use Rattle.base_flat_trees.proofs.Cursors.{kids_fewer}
use Rattle.xml_items.specs.declared.label.ItemLabel.{ItemLabel}
use Rattle.xml_items.specs.Seen.{item_seen}
use Rattle.xml_write.proofs.Written.{OnOk-map, some_kids, spelled-kids, written-kids}
use Rattle.xml_write.specs.Written.{all_spelled, written_declaration, written_name, written_start, written_end}
use Rattle.xml_write.specs.Private.Binding.{before_local, entry_of, named}
use Rattle.xml_write.proofs.Qualified.{named-written}
use Rattle.xml_write.proofs.writing.+write_tree.Goals as goal

pub write_start-requires : goal.write_start-requires
write_start-requires t c =
    let table = c.args.prefixes.now in
    named-written table c.qualifier-qualifier.result c.in-Element.name.now (c.qualifier-qualifier.ensures ∙ ap (before_local table) c.bytes-in-Element.ensures.bytes)

pub kids-init : goal.kids-init
kids-init t c =
    let kids : c.into_iter-kid-iterator.result ≡ kids_of c.args.tree.now = cc (c.into_iter-kid-iterator.ensures.into_iter_gives, c.kids-kids.ensures) in
    record {
      written = ap (λ ks. c.push.new.self.items ++ all_spelled c.args.prefixes.now (roses_of ks)) kids;
      fewer = kids_fewer c.args.tree.now c.into_iter-kid-iterator.result kids;
    }

pub returns-in-None : goal.returns-in-None
returns-in-None t c =
    let table = c.args.prefixes.now in
    let old = c.args.out.now.items in
    let kids = kids_of c.args.tree.now in
    let name = c.in-Element.name.now in
    let attributes = c.in-Element.attributes.now in
    let declarations = flat_map written_declaration (map entry_of c.args.declared.now) in
    let start = written_start table declarations name attributes in
    let pushed : c.push.new.self.items ≡ (old ++ start) ++ 62 ∷ [] = c.in_ok-push-in-Element.ensures.items ∙ ap (λ o. o ++ 62 ∷ []) c.in_ok-write_start-in-Element.ensures in
    let some : 0 < length kids = subst (λ (ks : List (Rose ItemLabel)). 0 < length ks) c.kids-kids.ensures (some_kids c.is_empty.result c.kids-kids.result c.is_empty.ensures.1 c.if-is_empty.false) in
    let spelled_is = spelled-kids table declarations c.args.tree.now name attributes _ _ kids (sym (ap item_seen c.in-Element.is) ∙ c.label.ensures) refl some in
    let all = written-kids table old start (written_end table name) c.push.new.self.items c.kids.out.items kids c.kids.kid-iterator c.in-None.ensures.steps.0 pushed c.kids.invariant.written in
    let q = c.qualifier-qualifier.result in
    let is : named q name ≡ written_name table name = named-written table q name (c.qualifier-qualifier.ensures ∙ ap (before_local table) c.bytes-in-Element.ensures.bytes) in
    let out : List ℕ = c.kids.out.items in
    let ended : out ++ (60 ∷ 47 ∷ named q name ++ 62 ∷ []) ≡ out ++ written_end table name = ap (λ (s : List ℕ). out ++ (60 ∷ 47 ∷ s ++ 62 ∷ [])) is in
    OnOk-map c.write_end.result (c.write_end.new.out.items ≡ out ++ (60 ∷ 47 ∷ named q name ++ 62 ∷ [])) _ (λ e. e ∙ ended ∙ all ∙ ap (λ s. old ++ s) spelled_is) c.write_end.ensures
