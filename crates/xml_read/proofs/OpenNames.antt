-- The names of the elements that are open have been tested, so an end tag with the innermost one needs no test of its own.
use Rattle.std.proofs.Common.{◌≡◌, ℕ, Bool, true, false, List, [], ◌∷◌, ◌++◌, None, refl, sym, ap, ◌∙◌}
use Rattle.std.specs.Prelude.{not}
use Rattle.std.specs.List.{flat_map}
use Rattle.std.proofs.lemmas.Slice.Eq.{bytes_eq-Decides}
use Rattle.base_texts.specs.Namespaces.{xml_prefix, xml_space}
use Rattle.xml_pieces.specs.Pieces.{Tag}
use Rattle.xml_pieces.specs.Namespaces.{is_long, is_unbound}
use Rattle.xml_pieces.specs.QNames.{prefix_of, is_qname}
use Rattle.xml_read.specs.Contexts.{Open, is_innermost, tag_scope, start_reason, start_tests, end_tests}
use Rattle.base_texts.specs.Entries.{first_true}
use Rattle.xml_read.specs.Private.Building.{AreNamed}
use Rattle.xml_read.specs.Private.Entering.{IsNamed}
use Rattle.xml_read.proofs.Telling.{passed}
use Rattle.xml_read.proofs.Soundness.{or_parts}

not_false : (b : Bool) → not b ≡ false → b ≡ true
not_false true e = refl
not_false false e = absurd cc

pub named_tag : (tag : Tag) (outer : List (List ℕ × List ℕ)) (ended : Bool) (depth : ℕ) → start_reason tag outer ended depth ≡ None → IsNamed tag.name (tag_scope tag outer)
unfolding start_reason
named_tag tag outer ended depth e =
    let p = passed (start_tests tag outer ended depth) e in
    record {
      qname = not_false (is_qname tag.name) (or_parts _ _ p.0).0;
      short = (or_parts _ _ (or_parts _ _ p.1.0).0).0;
      bound = (or_parts _ _ p.1.1.1.0).0;
    }

pub ends_named : (written : List ℕ) (es : List Open) → AreNamed es → is_innermost written es ≡ true → first_true (end_tests written (flat_map (λ (o : Open). o.declares) es ++ (xml_prefix, xml_space) ∷ []) es) ≡ None
ends_named written [] n h = absurd (cc)
ends_named written (e ∷ es) n h =
    let within = flat_map (λ (o : Open). o.declares) (e ∷ es) ++ (xml_prefix, xml_space) ∷ [] in
    let same : written ≡ e.written = sym ((bytes_eq-Decides e.written written).0 h) in
    let qname : is_qname written ≡ true = ap is_qname same ∙ n.0.qname in
    let short : is_long written ≡ false = ap is_long same ∙ n.0.short in
    let bound : is_unbound within (prefix_of written) ≡ false = ap (λ (w : List ℕ). is_unbound within (prefix_of w)) same ∙ n.0.bound in
    rw (qname, short, bound, h) refl
