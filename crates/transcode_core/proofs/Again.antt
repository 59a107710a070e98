-- What was written of a document is taken again, and what is written of this has the same treated items.
use Rattle.std.proofs.Common.{◌≡◌, ℕ, ◌≤◌, List, length, refl, sym, ◌∙◌, subst, Option, Some, Ok}
use Rattle.base_trees.specs.Rose.{Rose}
use Rattle.xml_items.specs.declared.label.ItemLabel.{ItemLabel}
use Rattle.xml_read.specs.Documents.{DocOf}
use Rattle.xml_write.specs.ReadBack.{ReadsAs}
use Rattle.xml_write.specs.Written.{written}
use Rattle.xml_items.specs.Plain.{Plain}
use Rattle.xml_items.specs.Unplaced.{unplaced}
use Rattle.xer_items.specs.Items.{Xer}
use Rattle.asn_values.specs.Values.{Fits}
use Rattle.simple_types.specs.declared.labels.ValueLabel.{ValueLabel}
use Rattle.value_laws.specs.SoundItems.{DocumentsOfValues}
use Rattle.schema_components.specs.SetParts.{SetParts}
use Rattle.validity_rules.specs.Valid.{Valid}
use Rattle.transcode_words.specs.declared.tasks.Syntax.{Syntax}
use Rattle.transcode_core.specs.Syntaxes.{AllSyntaxes}
use Rattle.transcode_core.specs.Steps.{RootType, Typed, Decoded}
use Rattle.transcode_core.specs.Due.{ItemsIn, Encoded, Documented}
use Rattle.transcode_core.specs.ReadBack.{DecodedBack, IsValidText, DocumentedBack}
use Rattle.transcode_core.proofs.Octets.{value_in, whole_decoded, decoded_whole, one_whole}
use Rattle.transcode_core.proofs.Single.{Typed-single, ok_inj, some_inj}

same_type : (opened : SetParts × ℕ) (a b : RootType) → Typed opened (Ok a) → Typed opened (Ok b) → b ≡ a
same_type opened a b p q = ok_inj b a (Typed-single opened (Ok b) (Ok a) q p)

module _ (documents : DocumentsOfValues) (opened : SetParts × ℕ) where
  -- a text that is read as the items of a value is valid with them as its treated items
  pub valid_text : (type : RootType) → Typed opened (Ok type) → (v : Rose ValueLabel) → Fits type.assignments type.number v
      → (items : Rose Plain) → Xer type.assignments type.number v ≡ Some items → (text : List ℕ) → ReadsAs text (unplaced items) → IsValidText opened text items
  valid_text type (s, of_s, h) v fits items is text reads =
      let M = type.assignments in
      let again = documents s M h.linked h.small h.is_map opened.1 h.global v (subst (λ t. Fits M t v) h.number_is fits) items (subst (λ t. Xer M t v ≡ Some items) h.number_is is) text reads in
      (again.0, again.1, ((s, h.linked, of_s), subst (λ p. Valid p opened.1 again.0 items) of_s again.2))

  pub documented_back : (syntax : Syntax) (left : Option (List ℕ)) (text : List ℕ) (type : RootType) → Typed opened (Ok type) → DecodedBack syntax type left text → DocumentedBack syntax opened left text
  documented_back syntax left text type typed (v, decoded, back) = record {
    type = type;
    typed = typed;
    value = v;
    decoded = decoded;
    back = back;
    valid = valid_text type typed v (value_in type syntax left v decoded).0 back.items back.of_value text back.is_read;
  }

-- in a set: the document of what was written of a document
pub taken_in_set : (syntax : Syntax) (opened : SetParts × ℕ) (document octets : List ℕ) → Encoded syntax opened (Some document) (Ok octets) → length octets ≤ 16777216
    → (text : List ℕ) × Documented syntax opened (Some octets) (Ok text)
taken_in_set syntax opened document octets (type, typed, (items, read, (v, (treated, judged, valued), encodes))) few =
    (written (unplaced treated), (type, typed, (v, decoded_whole type syntax octets v (few, valued.0, encodes.0), (treated, valued.1, refl))))

pub document_of : (document : List ℕ) (items : Rose ItemLabel) → ItemsIn (Some document) (Ok items) → DocOf document items
document_of document items (bytes, (is, few), read) = subst (λ (b : List ℕ). DocOf b items) (sym is) read

-- its treated items are those of the first
pub same_in_set : AllSyntaxes → (syntax : Syntax) (opened : SetParts × ℕ) (document octets text : List ℕ) → Encoded syntax opened (Some document) (Ok octets)
    → DocumentedBack syntax opened (Some octets) text → (treated : Rose Plain) × IsValidText opened document treated × IsValidText opened text treated
same_in_set laws syntax opened document octets text (type, (s, of_s, h), (items, read, (v, (treated, judged, valued), encodes))) back =
    let same = same_type opened type back.type (s, of_s, h) back.typed in
    let w = back.value in
    let whole = whole_decoded type syntax octets w (subst (λ t. Decoded syntax t (Some octets) (Ok w)) same back.decoded) in
    let value : w ≡ v = one_whole laws syntax type h octets w v whole (whole.0, valued.0, encodes.0) in
    let found = back.back.items in
    let its : Xer type.assignments type.number v ≡ Some found =
    subst (λ u. Xer type.assignments type.number u ≡ Some found) value (subst (λ (t : RootType). Xer t.assignments t.number w ≡ Some found) same back.back.of_value) in
    let e : found ≡ treated = some_inj found treated (sym its ∙ valued.1) in
    (treated, (items, document_of document items read, judged), subst (λ b. IsValidText opened text b) e back.valid)
