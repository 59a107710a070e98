-- The text that is written of a tree of items tells the same items, with other places and bindings.
use Rattle.std.proofs.Common.{◌≡◌, ℕ, suc, ◌+◌, ◌<◌, ◌≤◌, Bool, true, false, cond, List, [], ◌∷◌, ◌++◌, length, None, refl, sym, ap, subst, ◌∙◌, append_assoc, arith}
use Rattle.std.specs.Prelude.{◌&&◌, not, bytes_eq, IsUtf8}
use Rattle.std.specs.List.{list_all, flat_map}
use Rattle.std.proofs.lemmas.List.{append-nil, length-append}
use Rattle.std.proofs.lemmas.Bool.{true≢false, and_parts, lt-leb, not-true}
use Rattle.std.proofs.lemmas.Slice.Eq.{bytes_eq-Decides}
use Rattle.std.proofs.lemmas.Str.{IsUtf8-append, IsUtf8-nil}
use Rattle.base_texts.specs.declared.texts.Name.{Name}
use Rattle.base_texts.specs.Limits.{is_empty, has_xml_chars, is_name_part, is_xmlns}
use Rattle.base_texts.specs.Namespaces.{xml_prefix, xml_space}
use Rattle.base_texts.specs.Entries.{beside, first_true}
use Rattle.base_trees.specs.Rose.{Rose, node, Roses, none, more, Allowed, AllowedAll}
use Rattle.xml_pieces.specs.Pieces.{Tag, Start, Empty, End, PieceForm}
use Rattle.xml_items.specs.declared.label.ItemLabel.{ItemLabel}
use Rattle.xml_items.specs.declared.label.ItemLabel.TheVariants.{Element, Text}
use Rattle.xml_items.specs.Labels.{MayHave}
use Rattle.xml_read.specs.Sound.{is_sound_name, is_sound_space, has_name, is_sound_attribute, are_sound_attributes, is_sound_binding, is_sound_label, is_text, begins_with_text, is_sound, are_sound, levels, levels_all}
use Rattle.xml_pieces.specs.Namespaces.{is_unbound, bindings_of, expanded_twice}
use Rattle.xml_pieces.specs.QNames.{prefix_of}
use Rattle.xml_read.specs.Contexts.{Open, scope, end_tests, start_tests, reason, entered}
use Rattle.xml_read.specs.Tokens.{Token, Opens, Closes, tokens, tokens_all}
use Rattle.xml_read.specs.Documents.{opening}
use Rattle.xml_write.specs.Spaces.{attribute_spaces, label_spaces, spaces, all_spaces, prefix_for}
use Rattle.xml_write.specs.Written.{written_name, written_declaration, written_start, written_end, spelled, all_spelled}
use Rattle.xml_write.specs.Same.{SameItems, AllSameItems}
use Rattle.xml_write.proofs.Lists.{Each, each_parts}
use Rattle.xml_write.proofs.Texts.{text_of}
use Rattle.xml_write.proofs.Parts.{IsPart, part_of, IsResolved, plain_resolved, joined_resolved}
use Rattle.xml_write.proofs.Table.{IsBound, IsDeclared, Apart, turned}
use Rattle.xml_write.proofs.Tags.{IsOwn, tag_of, ascii_utf8, none_true, start_form, empty_form, start_utf8, inside, attributes_are, bindings_are, name_is, tag_passes}
use Rattle.xml_write.proofs.Again.{Reads, one_more, reads_bytes, reads_at, within, behind, ReadsWithin, NoWords, not_return, text_again}

-- ---- what is known of items

abbrev pub is_text_node : Rose ItemLabel → Bool
is_text_node (node label kids) = is_text label

pub more_parts : (t : Rose ItemLabel) (ts : Roses ItemLabel) → are_sound (more t ts) ≡ true → (is_sound t ≡ true) × ((is_text_node t && begins_with_text ts) ≡ false) × (are_sound ts ≡ true)
more_parts (node label kids) ts e =
    let one = and_parts (is_sound (node label kids) && not (is_text label && begins_with_text ts)) (are_sound ts) e in
    let two = and_parts (is_sound (node label kids)) (not (is_text label && begins_with_text ts)) one.0 in
    (two.0, not-true (is_text label && begins_with_text ts) two.1, one.1)

empty_is : (xs : List ℕ) → is_empty xs ≡ true → xs ≡ []
empty_is [] e = refl
empty_is (x ∷ xs) e = absurd (true≢false (sym e))

-- an element as it is written
pub record IsElement (table scope : List (List ℕ × List ℕ)) (name : Name) (attributes : List (Name × List ℕ)) : Type 0 where
  pub named : IsResolved scope name (written_name table name)
  pub own : Each (IsOwn table scope) attributes
  pub once : expanded_twice attributes ≡ false

-- a namespace that has a prefix, if it isn't the absent one
abbrev pub HasPrefix : List (List ℕ × List ℕ) → List (List ℕ × List ℕ) → List ℕ → Type 0
HasPrefix table scope space = is_empty space ≡ false → IsBound table scope space

module _ (table scope : List (List ℕ × List ℕ)) (absent : beside [] scope ≡ None) where
  resolved_by : (name : Name) (b : Bool) → is_empty name.space ≡ b → IsPart name.local → HasPrefix table scope name.space → IsResolved scope name (cond b name.local (prefix_for table name.space ++ 58 ∷ name.local))
  resolved_by name true e part bound = plain_resolved scope name part (empty_is name.space e) absent
  resolved_by name false e part bound = let p = bound e in joined_resolved scope name part (prefix_for table name.space) p.part p.not_xmlns p.found

  resolved : (name : Name) → is_sound_name name ≡ true → HasPrefix table scope name.space → IsResolved scope name (written_name table name)
  resolved name sound bound = resolved_by name (is_empty name.space) refl (part_of name.local (and_parts (is_sound_space name.space) (is_name_part name.local) sound).1) bound

  own_one : (a : Name × List ℕ) → is_sound_attribute a ≡ true → HasPrefix table scope a.0.space → IsOwn table scope a
  own_one a sound bound =
      let one = and_parts (is_sound_name a.0 && not (is_xmlns a.0)) (has_xml_chars a.1) sound in
      let two = and_parts (is_sound_name a.0) (not (is_xmlns a.0)) one.0 in
      let r = resolved a.0 two.0 bound in
      record { resolved = r; plain = r.plain (not-true (is_xmlns a.0) two.1); text = text_of a.1 one.1 }

  own_all : (attributes : List (Name × List ℕ)) → are_sound_attributes attributes ≡ true → Each (HasPrefix table scope) (attribute_spaces attributes)
      → Each (IsOwn table scope) attributes × (expanded_twice attributes ≡ false)
  own_all [] sound bound = (tt, refl)
  own_all (a ∷ later) sound bound =
      let one = and_parts (is_sound_attribute a && not (has_name a.0 later)) (are_sound_attributes later) sound in
      let two = and_parts (is_sound_attribute a) (not (has_name a.0 later)) one.0 in
      let rest = own_all later one.1 bound.1 in
      ((own_one a two.0 bound.0, rest.0), rw (not-true (has_name a.0 later) two.1) rest.1)

  pub element_fine : (name : Name) (attributes : List (Name × List ℕ)) (binds : List (List ℕ × List ℕ)) (at : ℕ) → is_sound_label (Element name attributes binds at) ≡ true
      → Each (HasPrefix table scope) (label_spaces (Element name attributes binds at)) → IsElement table scope name attributes
  element_fine name attributes binds at sound bound =
      let one = and_parts (is_sound_name name && are_sound_attributes attributes) (list_all is_sound_binding binds) sound in
      let two = and_parts (is_sound_name name) (are_sound_attributes attributes) one.0 in
      let own = own_all attributes two.1 bound.1 in
      record { named = resolved name two.0 bound.0; own = own.0; once = own.1 }

-- ---- what is read

abbrev scope_of : List Open → List (List ℕ × List ℕ)
scope_of es = scope (within es 0)

-- the bytes of a node are read as the same, before what follows
abbrev pub NodeRead : List Open → ℕ → List ℕ → List ℕ → Rose ItemLabel → List Token → Type 0
NodeRead es at bytes rest t ts = (again : Rose ItemLabel) × SameItems t again × Allowed MayHave again × ReadsWithin es at (bytes ++ rest) (tokens again ++ ts)

abbrev KidsRead : List Open → ℕ → List ℕ → List ℕ → Roses ItemLabel → List Token → Type 0
KidsRead es at bytes rest kids ts = (again : Roses ItemLabel) × AllSameItems kids again × AllowedAll MayHave again × ReadsWithin es at (bytes ++ rest) (tokens_all again ++ ts)

abbrev KidsReads : List (List ℕ × List ℕ) → List (List ℕ × List ℕ) → Roses ItemLabel → Type 0
KidsReads table outer kids =
    (es : List Open) → is_empty es ≡ false → scope_of es ≡ outer → length es + levels_all kids ≤ 64 → (at : ℕ) (rest : List ℕ) (ts : List Token) → NoWords ts
    → ReadsWithin es (at + length (all_spelled table kids)) rest ts → KidsRead es at (all_spelled table kids) rest kids ts

abbrev NodeReads : List (List ℕ × List ℕ) → List (List ℕ × List ℕ) → Rose ItemLabel → Type 0
NodeReads table outer t =
    (es : List Open) → is_empty es ≡ false → scope_of es ≡ outer → length es + levels t ≤ 64 → (at : ℕ) (rest : List ℕ) (ts : List Token) → (is_text_node t ≡ true → NoWords ts)
    → ReadsWithin es (at + length (spelled table [] t)) rest ts → NodeRead es at (spelled table [] t) rest t ts

-- ---- elements

regroup : (start inner end rest : List ℕ) → (start ++ 62 ∷ []) ++ (inner ++ (end ++ rest)) ≡ (start ++ 62 ∷ inner ++ end) ++ rest
regroup start inner end rest = simp append_assoc

places : (at : ℕ) (start inner end : List ℕ) → at + length (start ++ 62 ∷ inner ++ end) ≡ ((at + length (start ++ 62 ∷ [])) + length inner) + length end
places at start inner end = omega (arith, length-append (start ++ 62 ∷ inner) end, length-append start (62 ∷ inner), length-append start (62 ∷ []))

module _ (table outer declared : List (List ℕ × List ℕ)) (name : Name) (attributes : List (Name × List ℕ)) (binds : List (List ℕ × List ℕ)) (place : ℕ)
    (ds : Each IsDeclared declared) (apart : Apart declared) (fine : IsElement table outer name attributes) where
  abbrev tag : Tag
  tag = tag_of table declared name attributes

  abbrev front : List ℕ
  front = written_start table (flat_map written_declaration declared) name attributes

  abbrev end : List ℕ
  end = written_end table name

  front_utf8 : (shut : List ℕ) → IsUtf8 shut → IsUtf8 (front ++ shut)
  front_utf8 shut u = IsUtf8-append front shut (start_utf8 table outer declared name attributes ds apart fine.named fine.own fine.once) u

  module _ (es : List Open) (scope_is : turned declared ++ scope_of es ≡ outer) (at : ℕ) (rest : List ℕ) (ts : List Token) where
    opens : (n : ℕ) → opening tag (within es n) at ≡ Opens name attributes (turned declared) at
    opens n =
        let named = name_is table outer declared name attributes ds apart fine.named fine.own fine.once (scope_of es) scope_is in
        let attributed = attributes_are table outer declared name attributes ds apart fine.named fine.own fine.once (scope_of es) scope_is in
        let bound = bindings_are table outer declared name attributes ds apart fine.named fine.own fine.once in
        λ i. Opens (named i) (attributed i) (bound i) at

    passes : length es < 64 → first_true (start_tests tag (scope_of es) false (length es)) ≡ None
    passes room = tag_passes table outer declared name attributes ds apart fine.named fine.own fine.once (scope_of es) scope_is (length es) (lt-leb 64 (length es) room)

    start_free : (n : ℕ) → length es < 64 → reason (Start tag) (within es n) ≡ None
    unfolding reason
    start_free n room = passes room

    empty_free : (n : ℕ) → length es < 64 → reason (Empty tag) (within es n) ≡ None
    unfolding reason
    empty_free n room = passes room

    -- an element without children
    empty_again : length es < 64 → Reads (behind es) (at + length (front ++ 47 ∷ 62 ∷ [])) rest ts → ReadsWithin es at ((front ++ 47 ∷ 62 ∷ []) ++ rest) (Opens name attributes (turned declared) at ∷ Closes ∷ ts)
    empty_again room next n =
        subst (λ (t : Token). Reads (within es n) at ((front ++ 47 ∷ 62 ∷ []) ++ rest) (t ∷ Closes ∷ ts)) (opens n)
        (one_more (Empty tag) (within es n) at (front ++ 47 ∷ 62 ∷ []) rest ts
        (empty_form table outer declared name attributes ds apart fine.named fine.own fine.once)
        (not_return 60 (front ++ 47 ∷ 62 ∷ []) refl (λ e. omega (arith, e)))
        (front_utf8 (47 ∷ 62 ∷ []) (ascii_utf8 47 (62 ∷ []) (omega arith) (ascii_utf8 62 [] (omega arith) IsUtf8-nil)))
        (empty_free n room) next)

    -- the elements that are open within this one
    abbrev opened : List Open
    opened = entered tag ∷ es

    opened_scope : scope_of opened ≡ outer
    opened_scope =
        append_assoc (bindings_of tag.attributes) (flat_map (λ (e : Open). e.declares) es) ((xml_prefix, xml_space) ∷ [])
        ∙ inside table outer declared name attributes ds apart fine.named fine.own fine.once (scope_of es) scope_is

    end_free : (n : ℕ) → reason (End (written_name table name)) (within opened n) ≡ None
    unfolding reason
    end_free n =
        let own : bytes_eq (written_name table name) (written_name table name) ≡ true = (bytes_eq-Decides (written_name table name) (written_name table name)).1 refl in
        let bound : is_unbound (scope_of opened) (prefix_of (written_name table name)) ≡ false = ap (λ (s : List (List ℕ × List ℕ)). is_unbound s (prefix_of (written_name table name))) opened_scope ∙ fine.named.bound in
        none_true (end_tests (written_name table name) (scope_of opened) opened) (ap not fine.named.qname, (fine.named.short, (bound, (ap not own, tt))))

    end_form : PieceForm (End (written_name table name)) end
    end_form = (
      written_name table name ++ [] ++ 62 ∷ [],
      record { space = []; named = fine.named.named; blank = refl; text_is = refl },
      ap (λ (x : List ℕ). 60 ∷ 47 ∷ x ++ 62 ∷ []) (sym (append-nil (written_name table name))),
    )

    end_utf8 : IsUtf8 end
    end_utf8 = ascii_utf8 60 (47 ∷ written_name table name ++ 62 ∷ []) (omega arith) (ascii_utf8 47 (written_name table name ++ 62 ∷ []) (omega arith) (IsUtf8-append (written_name table name) (62 ∷ []) fine.named.named.utf8 (ascii_utf8 62 [] (omega arith) IsUtf8-nil)))

    end_again : (there : ℕ) → Reads (behind es) (there + length end) rest ts → ReadsWithin opened there (end ++ rest) (Closes ∷ ts)
    end_again there next n = one_more (End (written_name table name)) (within opened n) there end rest ts end_form (not_return 60 end refl (λ e. omega (arith, e))) end_utf8 (end_free n) next

    start_again : (inner : List ℕ) (us : List Token) → length es < 64 → ReadsWithin opened (at + length (front ++ 62 ∷ [])) (inner ++ (end ++ rest)) us
        → ReadsWithin es at ((front ++ 62 ∷ inner ++ end) ++ rest) (Opens name attributes (turned declared) at ∷ us)
    start_again inner us room next n =
        reads_bytes (within es n) at ((front ++ 62 ∷ []) ++ (inner ++ (end ++ rest))) ((front ++ 62 ∷ inner ++ end) ++ rest) (Opens name attributes (turned declared) at ∷ us) (regroup front inner end rest)
        (subst (λ (t : Token). Reads (within es n) at ((front ++ 62 ∷ []) ++ (inner ++ (end ++ rest))) (t ∷ us)) (opens n)
        (one_more (Start tag) (within es n) at (front ++ 62 ∷ []) (inner ++ (end ++ rest)) us
        (start_form table outer declared name attributes ds apart fine.named fine.own fine.once)
        (not_return 60 (front ++ 62 ∷ []) refl (λ e. omega (arith, e)))
        (front_utf8 (62 ∷ []) (ascii_utf8 62 [] (omega arith) IsUtf8-nil))
        (start_free n room) (next 0)))

    element_by : (kids : Roses ItemLabel) → KidsReads table outer kids → length es + suc (levels_all kids) ≤ 64
        → Reads (behind es) (at + length (spelled table (flat_map written_declaration declared) (node (Element name attributes binds place) kids))) rest ts
        → NodeRead es at (spelled table (flat_map written_declaration declared) (node (Element name attributes binds place) kids)) rest (node (Element name attributes binds place) kids) ts
    element_by none kids_read room next = (node (Element name attributes (turned declared) at) none, (refl, λ space local. refl, tt), (tt, tt), empty_again (omega arith) next)
    element_by (more k ks) kids_read room next =
        let inner = all_spelled table (more k ks) in
        let there = at + length (front ++ 62 ∷ []) in
        let ended = end_again (there + length inner) (reads_at (behind es) (at + length (front ++ 62 ∷ inner ++ end)) ((there + length inner) + length end) rest ts (places at front inner end) next) in
        let r = kids_read opened refl opened_scope (omega arith) there (end ++ rest) (Closes ∷ ts) tt ended in
        let read = start_again inner (tokens_all r.0 ++ Closes ∷ ts) (omega arith) r.3 in
        let told_is : tokens_all r.0 ++ Closes ∷ ts ≡ (tokens_all r.0 ++ Closes ∷ []) ++ ts = sym (append_assoc (tokens_all r.0) (Closes ∷ []) ts) in (
          node (Element name attributes (turned declared) at) r.0,
          (refl, λ space local. refl, r.1),
          (tt, r.2),
          λ n. subst (λ (us : List Token). Reads (within es n) at ((front ++ 62 ∷ inner ++ end) ++ rest) (Opens name attributes (turned declared) at ∷ us)) told_is (read n),
        )

pub element_again : (table outer declared : List (List ℕ × List ℕ)) (name : Name) (attributes : List (Name × List ℕ)) (binds : List (List ℕ × List ℕ)) (place : ℕ) → Each IsDeclared declared → Apart declared
    → IsElement table outer name attributes → (es : List Open) → turned declared ++ scope_of es ≡ outer → (at : ℕ) (rest : List ℕ) (ts : List Token) (kids : Roses ItemLabel) → KidsReads table outer kids → length es + suc (levels_all kids) ≤ 64
    → Reads (behind es) (at + length (spelled table (flat_map written_declaration declared) (node (Element name attributes binds place) kids))) rest ts
    → NodeRead es at (spelled table (flat_map written_declaration declared) (node (Element name attributes binds place) kids)) rest (node (Element name attributes binds place) kids) ts
element_again table outer declared name attributes binds place ds apart fine es scope_is at rest ts kids = element_by table outer declared name attributes binds place ds apart fine es scope_is at rest ts kids

-- ---- nodes

words_apart : (kids again : Roses ItemLabel) (ts : List Token) → AllSameItems kids again → begins_with_text kids ≡ false → NoWords ts → NoWords (tokens_all again ++ ts)
words_apart none none ts same e no_words = no_words
words_apart none (more u us) ts same e no_words = absurd same
words_apart (more (node (Text t p) ks) kids) again ts same e no_words = absurd (true≢false e)
words_apart (more (node (Element n a b p) ks) kids) none ts same e no_words = absurd same
words_apart (more (node (Element n a b p) ks) kids) (more (node (Text t q) ls) us) ts same e no_words = absurd same.0
words_apart (more (node (Element n a b p) ks) kids) (more (node (Element m c d q) ls) us) ts same e no_words = tt

and_false : (a b : Bool) → a ≡ true → (a && b) ≡ false → b ≡ false
and_false true b e f = f
and_false false b e f = absurd (true≢false (sym e))

module _ (table outer : List (List ℕ × List ℕ)) (absent : beside [] outer ≡ None) where
  mutual
    node_reads : (t : Rose ItemLabel) → is_sound t ≡ true → Each (HasPrefix table outer) (spaces t) → Allowed MayHave t → NodeReads table outer t
    node_reads (node (Element name attributes binds place) kids) sound bound allowed = λ es inside scope_is room at rest ts apart next.
        (let parts = and_parts (is_sound_label (Element name attributes binds place)) (are_sound kids) sound in
        let bounds = each_parts (HasPrefix table outer) (label_spaces (Element name attributes binds place)) (all_spaces kids) bound in
        let fine = element_fine table outer absent name attributes binds place parts.0 bounds.0 in
        let inner = kids_reads kids parts.1 bounds.1 allowed.1 in
        let there = at + length (spelled table [] (node (Element name attributes binds place) kids)) in
        let behind_it : Reads (behind es) there rest ts = subst (λ (b : Bool). Reads (record { elements = es; ended = b; first = false; brackets = 0 }) there rest ts) (sym inside) (next 0) in
        element_again table outer [] name attributes binds place tt tt fine es scope_is at rest ts kids inner (omega arith) behind_it)
    node_reads (node (Text text place) none) sound bound allowed = λ es inside scope_is room at rest ts apart next.
        (let parts = and_parts (not (is_empty text)) (has_xml_chars text) (and_parts (not (is_empty text) && has_xml_chars text) true sound).0 in (
          node (Text text at) none,
          (refl, tt),
          (refl, tt),
          text_again text (text_of text parts.1) (not-true (is_empty text) parts.0) es inside at rest ts (apart refl) next,
        ))
    node_reads (node (Text text place) (more k ks)) sound bound allowed = λ es inside scope_is room at rest ts apart next. absurd (let no = allowed.0 in omega (arith, no))

    kids_reads : (kids : Roses ItemLabel) → are_sound kids ≡ true → Each (HasPrefix table outer) (all_spaces kids) → AllowedAll MayHave kids → KidsReads table outer kids
    kids_reads none sound bound allowed = λ es inside scope_is room at rest ts no_words next. (none, tt, tt, λ n. reads_at (within es n) (at + 0) at rest ts (omega arith) (next n))
    kids_reads (more t ks) sound bound allowed = λ es inside scope_is room at rest ts no_words next.
        (let parts = more_parts t ks sound in
        let bounds = each_parts (HasPrefix table outer) (spaces t) (all_spaces ks) bound in
        let here = spelled table [] t in
        let later = all_spelled table ks in
        let place : at + length (here ++ later) ≡ (at + length here) + length later = omega (arith, length-append here later) in
        let r = kids_reads ks parts.2 bounds.1 allowed.1 es inside scope_is (omega arith) (at + length here) rest ts no_words (λ n. reads_at (within es n) (at + length (here ++ later)) ((at + length here) + length later) rest ts place (next n)) in
        let q = node_reads t parts.0 bounds.0 allowed.0 es inside scope_is (omega arith) at (later ++ rest) (tokens_all r.0 ++ ts) (λ e. words_apart ks r.0 ts r.1 (and_false (is_text_node t) (begins_with_text ks) e parts.1) no_words) r.3 in (
          more q.0 r.0,
          (q.1, r.1),
          (q.2, r.2),
          λ n. reads_bytes (within es n) at (here ++ (later ++ rest)) ((here ++ later) ++ rest) ((tokens q.0 ++ tokens_all r.0) ++ ts) (sym (append_assoc here later rest))
              (subst (Reads (within es n) at (here ++ (later ++ rest))) (sym (append_assoc (tokens q.0) (tokens_all r.0) ts)) (q.3 n)),
        ))

  pub all_read : (kids : Roses ItemLabel) → are_sound kids ≡ true → Each (HasPrefix table outer) (all_spaces kids) → AllowedAll MayHave kids → KidsReads table outer kids
  all_read = kids_reads
