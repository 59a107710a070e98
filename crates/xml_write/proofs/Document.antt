-- The text that is written of items is a document of the same items.
use Rattle.std.proofs.Common.{◌≡◌, ℕ, ◌+◌, ◌≤◌, Bool, true, false, List, [], ◌∷◌, ◌++◌, length, Some, None, refl, sym, ap, subst, ◌∙◌, inl, arith}
use Rattle.std.specs.Prelude.{◌&&◌, ◌||◌, ◌^◌, ◌<◌, not, bytes_eq, codes, IsUtf8}
use Rattle.std.specs.List.{flat_map, list_all}
use Rattle.std.proofs.lemmas.List.{append-nil, length-append, length-map}
use Rattle.std.proofs.lemmas.Bool.{true≢false, and_parts}
use Rattle.std.proofs.lemmas.Slice.Eq.{bytes_eq-Decides}
use Rattle.std.proofs.lemmas.Str.{IsUtf8-nil, encode_ascii}
use Rattle.base_texts.specs.Characters.{is_xml_char}
use Rattle.base_texts.specs.WhiteSpace.{is_white_space}
use Rattle.base_texts.specs.declared.texts.Name.{Name}
use Rattle.base_texts.specs.Limits.{is_name_part, is_xmlns, has_xml_chars}
use Rattle.base_trees.specs.Rose.{Rose, node, Roses, none, more}
use Rattle.xml_pieces.specs.Pieces.{Declaration, Character, IsAssigned, IsAccepted, PieceForm}
use Rattle.xml_items.specs.declared.label.ItemLabel.{ItemLabel}
use Rattle.xml_items.specs.declared.label.ItemLabel.TheVariants.{Element, Text}
use Rattle.xml_read.specs.Sound.{has_name, is_sound_space, is_sound_name, is_sound_attribute, are_sound_attributes, is_sound_binding, is_sound_label, is_sound, are_sound, AreItems}
use Rattle.xml_read.specs.Contexts.{start, reason}
use Rattle.xml_read.specs.Tokens.{Token, tokens}
use Rattle.xml_write.specs.Spaces.{attribute_spaces, label_spaces, spaces, all_spaces, has_space, declared_spaces, prefixes}
use Rattle.xml_write.specs.Written.{written_name, written_attribute, written_declaration, written_start, written_end, written_element, spelled, all_spelled, xml_declaration, written}
use Rattle.xml_write.specs.ReadBack.{ReadsAs}
use Rattle.xml_write.proofs.Lists.{Each, each_by, each_append, each_parts}
use Rattle.xml_write.proofs.Texts.{is_low, low_text}
use Rattle.xml_write.proofs.Table.{numbered_keys, scope, table_apart, absent, all_bound, all_declared}
use Rattle.xml_write.proofs.Tags.{one_space, ascii_utf8}
use Rattle.xml_write.proofs.Again.{Reads, one_more, within, behind, not_return}
use Rattle.xml_write.proofs.Trees.{HasPrefix, element_fine, all_read, element_again, more_parts}

-- ---- the XML declaration, and line feeds outside the root

abbrev heading : List ℕ
heading = codes "<?xml version=\"1.0\" encoding=\"UTF-8\"?>"

versioned : IsAssigned (codes "version") (codes "1.0") (codes " version=\"1.0\"")
versioned = record { space = 32 ∷ []; before = []; after = []; quote = 34; spaces = one_space; blank_before = refl; blank_after = refl; quotes = refl; inside = refl; text_is = refl }

encoded : IsAssigned (codes "encoding") (codes "UTF-8") (codes " encoding=\"UTF-8\"")
encoded = record { space = 32 ∷ []; before = []; after = []; quote = 34; spaces = one_space; blank_before = refl; blank_after = refl; quotes = refl; inside = refl; text_is = refl }

accepted : IsAccepted (codes " version=\"1.0\" encoding=\"UTF-8\"?>")
accepted = record {
  version = codes "1.0";
  encoding = Some (codes "UTF-8");
  declares = record {
    standalone = None;
    version_text = codes " version=\"1.0\"";
    encoding_text = codes " encoding=\"UTF-8\"";
    standalone_text = [];
    space = [];
    versioned = versioned;
    encoded = encoded;
    alone = refl;
    accepted = refl;
    blank = refl;
    text_is = refl;
  };
  version_ok = refl;
  encoding_ok = refl;
}

heading_low : list_all is_low heading ≡ true
unfolding is_xml_char
heading_low = refl

heading_form : PieceForm Declaration heading
heading_form = (codes " version=\"1.0\" encoding=\"UTF-8\"?>", accepted, refl)

heading_free : reason Declaration start ≡ None
unfolding reason
heading_free = refl

line_xml : is_xml_char 10 ≡ true
unfolding is_xml_char
line_xml = refl

line_form : PieceForm (Character 10) (10 ∷ [])
line_form = inl (line_xml, (λ e. omega (arith, e)), (λ e. omega (arith, e)), (λ e. omega (arith, e)), sym (encode_ascii 10 (omega arith)))

line_utf8 : IsUtf8 (10 ∷ [])
line_utf8 = ascii_utf8 10 [] (omega arith) IsUtf8-nil

first_free : reason (Character 10) (within [] 0) ≡ None
unfolding reason is_white_space
first_free = refl

last_free : reason (Character 10) (behind []) ≡ None
unfolding reason is_white_space
last_free = refl

-- what stands behind the root
last_line : (at : ℕ) → Reads (behind []) at (10 ∷ []) []
last_line at = one_more (Character 10) (behind []) at (10 ∷ []) [] [] line_form (not_return 10 (10 ∷ []) refl (λ e. omega (arith, e))) line_utf8 last_free (IsUtf8-nil, ([], (refl, refl, refl)))

-- what stands before the root
headed : (bytes : List ℕ) (ts : List Token) → Reads (within [] 0) (length heading + 1) bytes ts → Reads start 0 (xml_declaration ++ bytes) ts
headed bytes ts r =
    let line = one_more (Character 10) (within [] 0) (length heading) (10 ∷ []) bytes ts line_form (not_return 10 (10 ∷ []) refl (λ e. omega (arith, e))) line_utf8 first_free r in
    one_more Declaration start 0 heading (10 ∷ bytes) ts heading_form (not_return 60 heading refl (λ e. omega (arith, e))) (low_text heading heading_low).utf8 heading_free line

-- ---- the namespaces of sound items

abbrev IsSpace : List ℕ → Type 0
IsSpace space = is_sound_space space ≡ true

name_space : (name : Name) → is_sound_name name ≡ true → IsSpace name.space
name_space name sound = (and_parts (is_sound_space name.space) (is_name_part name.local) sound).0

attributes_sound : (attributes : List (Name × List ℕ)) → are_sound_attributes attributes ≡ true → Each IsSpace (attribute_spaces attributes)
attributes_sound [] sound = tt
attributes_sound (a ∷ later) sound =
    let one = and_parts (is_sound_attribute a && not (has_name a.0 later)) (are_sound_attributes later) sound in
    let two = and_parts (is_sound_attribute a) (not (has_name a.0 later)) one.0 in
    let three = and_parts (is_sound_name a.0 && not (is_xmlns a.0)) (has_xml_chars a.1) two.0 in
    (name_space a.0 (and_parts (is_sound_name a.0) (not (is_xmlns a.0)) three.0).0, attributes_sound later one.1)

label_sound : (label : ItemLabel) → is_sound_label label ≡ true → Each IsSpace (label_spaces label)
label_sound (Element name attributes binds at) sound =
    let one = and_parts (is_sound_name name && are_sound_attributes attributes) (list_all is_sound_binding binds) sound in
    let two = and_parts (is_sound_name name) (are_sound_attributes attributes) one.0 in
    (name_space name two.0, attributes_sound attributes two.1)
label_sound (Text text at) sound = tt

mutual
  spaces_sound : (t : Rose ItemLabel) → is_sound t ≡ true → Each IsSpace (spaces t)
  spaces_sound (node label kids) sound =
      let parts = and_parts (is_sound_label label) (are_sound kids) sound in
      each_append IsSpace (label_spaces label) (all_spaces kids) (label_sound label parts.0) (all_sound kids parts.1)

  all_sound : (kids : Roses ItemLabel) → are_sound kids ≡ true → Each IsSpace (all_spaces kids)
  all_sound none sound = tt
  all_sound (more t ts) sound =
      let parts = more_parts t ts sound in
      each_append IsSpace (spaces t) (all_spaces ts) (spaces_sound t parts.0) (all_sound ts parts.2)

or_right : (a b : Bool) → b ≡ true → (a || b) ≡ true
or_right true b e = refl
or_right false b e = e

each_listed : (spaces : List (List ℕ)) → Each (λ space. has_space spaces space ≡ true) spaces
each_listed [] = tt
each_listed (x ∷ xs) =
    let own : bytes_eq x x ≡ true = (bytes_eq-Decides x x).1 refl in
    let here : has_space (x ∷ xs) x ≡ true = rw own refl in
    (here, each_by (λ space. has_space xs space ≡ true) (λ space. has_space (x ∷ xs) space ≡ true) (λ space e. or_right (bytes_eq space x) (has_space xs space) e) xs (each_listed xs))

-- ---- a document has at most as many declarations as bytes

declared_le : (entries : List (List ℕ × List ℕ)) → length entries ≤ length (flat_map written_declaration entries)
declared_le [] = omega arith
declared_le (e ∷ es) = omega (arith, declared_le es, length-append (written_declaration e) (flat_map written_declaration es), some e)
  where
    some : (e : List ℕ × List ℕ) → 1 ≤ length (written_declaration e)
    some e = omega arith

element_le : (front inner end : List ℕ) (kids : Roses ItemLabel) → length front ≤ length (written_element front inner end kids)
element_le front inner end none = omega (arith, length-append front (47 ∷ 62 ∷ []))
element_le front inner end (more k ks) = omega (arith, length-append (front ++ 62 ∷ inner) end, length-append front (62 ∷ inner))

front_le : (name declarations attributes : List ℕ) → length declarations ≤ length (60 ∷ name ++ declarations ++ attributes)
front_le name declarations attributes = omega (arith, length-append (60 ∷ name ++ declarations) attributes, length-append (60 ∷ name) declarations)

written_le : (text : List ℕ) → 1 + length text ≤ length (xml_declaration ++ text ++ 10 ∷ [])
written_le text = omega (arith, length-append (xml_declaration ++ text) (10 ∷ []), length-append xml_declaration text)

-- ---- the document

module _ (name : Name) (attributes : List (Name × List ℕ)) (binds : List (List ℕ × List ℕ)) (place : ℕ) (kids : Roses ItemLabel) where
  abbrev root : Rose ItemLabel
  root = node (Element name attributes binds place) kids

  abbrev found : List (List ℕ × List ℕ)
  found = prefixes root

  abbrev declarations : List ℕ
  declarations = flat_map written_declaration found

  few : length (written root) < 2 ^ 64 → 1 + length (declared_spaces root) < 2 ^ 64
  few short =
      let front = written_start found declarations name attributes in
      let text = spelled found declarations root in
      let counted : length found ≡ length (declared_spaces root) = sym (length-map found (λ (e : List ℕ × List ℕ). e.0)) ∙ ap length (numbered_keys 1 (declared_spaces root)) in
      omega (
        arith,
        short,
        counted,
        declared_le found,
        front_le (written_name found name) declarations (flat_map (written_attribute found) attributes),
        element_le front (all_spelled found kids) (written_end found name) kids,
        written_le text,
      )

  element_read : AreItems root → length (written root) < 2 ^ 64 → ReadsAs (written root) root
  element_read items short =
      let names = spaces root in
      let count = few short in
      let outer = scope names count in
      let bound = each_by (λ space. has_space names space ≡ true) (HasPrefix found outer) (λ space listed some. all_bound names count space listed some) names (each_listed names) in
      let parts = and_parts (is_sound_label (Element name attributes binds place)) (are_sound kids) items.sound in
      let bounds = each_parts (HasPrefix found outer) (label_spaces (Element name attributes binds place)) (all_spaces kids) bound in
      let fine = element_fine found outer (absent names count) name attributes binds place parts.0 bounds.0 in
      let inner = all_read found outer (absent names count) kids parts.1 bounds.1 items.allowed.1 in
      let text = spelled found declarations root in
      let r = element_again found outer found name attributes binds place (all_declared names count (spaces_sound root items.sound)) (table_apart names count) fine [] refl (length heading + 1) (10 ∷ []) [] kids inner (omega (arith, items.shallow)) (last_line ((length heading + 1) + length text)) in
      let read = headed (text ++ 10 ∷ []) (tokens r.0 ++ []) (r.3 0) in
      let whole = subst (Reads start 0 (written root)) (append-nil (tokens r.0)) read in
      (r.0, record { utf8 = whole.0; allowed = r.2; pieces = whole.1.0; whole = whole.1.1 }, r.1)

-- What is written of items is a document of the same items, as long as the numbers of its prefixes have 64 bits.
pub read_back : (root : Rose ItemLabel) → AreItems root → length (written root) < 2 ^ 64 → ReadsAs (written root) root
read_back (node (Element name attributes binds place) kids) items short = element_read name attributes binds place kids items short
read_back (node (Text text place) kids) items short = absurd (true≢false (sym items.element))
