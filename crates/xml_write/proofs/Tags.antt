-- The start tag that is written of an element: it is one, no reason stands against it, and it tells the element.
use Rattle.std.proofs.Common.{◌≡◌, ℕ, ◌<◌, Bool, true, false, List, [], ◌∷◌, ◌++◌, length, map, drop, None, refl, sym, ap, subst, ◌∙◌, append_assoc, arith}
use Rattle.std.specs.Prelude.{◌||◌, not, nat_le, bytes_eq, codes, IsUtf8}
use Rattle.std.specs.List.{list_any, flat_map}
use Rattle.std.specs.Char.{IsScalar}
use Rattle.std.proofs.lemmas.List.{append-nil}
use Rattle.std.proofs.lemmas.Bool.{true≢false, and_from}
use Rattle.std.proofs.lemmas.Slice.Eq.{bytes_eq-Decides}
use Rattle.std.proofs.lemmas.Str.{IsUtf8-append, IsUtf8-nil, IsUtf8-encode, encode_ascii}
use Rattle.base_texts.specs.declared.texts.Name.{Name}
use Rattle.base_texts.specs.WhiteSpace.{is_white_space}
use Rattle.base_texts.specs.Names.{name_eq}
use Rattle.xml_pieces.specs.Pieces.{Tag, Start, Empty, IsName, IsText, IsSpace, Exact, IsAttribute, AreAttributes, IsTag, PieceForm}
use Rattle.xml_pieces.proofs.Tools.{or_false}
use Rattle.xml_read.specs.declared.error.DocWhy.{DocWhy}
use Rattle.xml_read.specs.Sound.{has_name}
use Rattle.xml_pieces.specs.Namespaces.{is_long, binds, bindings_of, plain_of, is_reserved, is_unbound, attribute_name, attributes_of, element_name, written_twice, expanded_twice}
use Rattle.xml_pieces.specs.QNames.{prefix_of, is_qname}
use Rattle.xml_read.specs.Contexts.{names_of, has_bad_name, has_long_name, has_reserved, has_unbound, has_duplicate, tag_scope, start_tests}
use Rattle.base_texts.specs.Entries.{first_true}
use Rattle.xml_write.specs.Written.{value_escape, written_name, written_value, written_attribute, written_declaration, written_start}
use Rattle.xml_write.proofs.Lists.{Each, each_by, each_both, each_append, each_map, none_any, any_none}
use Rattle.xml_write.proofs.Escapes.{value_text, value_is, value_quoted}
use Rattle.xml_write.proofs.Parts.{IsResolved, Binds, declared_name}
use Rattle.xml_write.proofs.Table.{IsDeclared, Apart, turned, differs}

-- ---- UTF-8

pub ascii_utf8 : (b : ℕ) (bytes : List ℕ) → b < 128 → IsUtf8 bytes → IsUtf8 (b ∷ bytes)
ascii_utf8 b bytes low u =
    let scalar : IsScalar b = grind (arith, low) in
    IsUtf8-append (b ∷ []) bytes (subst IsUtf8 (encode_ascii b low) (IsUtf8-encode b scalar)) u

flat_utf8 : {A : Type 0} (F : A → Type 0) (t : A → List ℕ) → ((x : A) → F x → IsUtf8 (t x)) → (xs : List A) → Each F xs → IsUtf8 (flat_map t xs)
flat_utf8 F t h [] each = IsUtf8-nil
flat_utf8 F t h (x ∷ xs) each = IsUtf8-append (t x) (flat_map t xs) (h x each.0) (flat_utf8 F t h xs each.1)

-- ---- attributes

a_space : is_white_space 32 ≡ true
unfolding is_white_space
a_space = refl

pub one_space : IsSpace (32 ∷ [])
one_space = record { some = omega arith; blank = rw a_space refl }

assigned_text : (name w : List ℕ) → 32 ∷ name ++ (61 ∷ 34 ∷ w ++ 34 ∷ []) ≡ (32 ∷ []) ++ name ++ [] ++ 61 ∷ [] ++ 34 ∷ w ++ 34 ∷ []
assigned_text name w = simp (append_assoc, append-nil)

assigned : (name value : List ℕ) → IsName name → IsText value → IsAttribute Exact name value (32 ∷ name ++ written_value value)
assigned name value named text = record {
  written = flat_map value_escape value;
  assigned = record {
    space = 32 ∷ [];
    before = [];
    after = [];
    quote = 34;
    spaces = one_space;
    blank_before = refl;
    blank_after = refl;
    quotes = refl;
    inside = value_quoted value;
    text_is = assigned_text name (flat_map value_escape value);
  };
  named = named;
  valued = value_is value text;
}

assigned_utf8 : (name value : List ℕ) → IsName name → IsText value → IsUtf8 (32 ∷ name ++ written_value value)
assigned_utf8 name value named text =
    let escaped = flat_map value_escape value in
    let inside : IsUtf8 (escaped ++ 34 ∷ []) = IsUtf8-append escaped (34 ∷ []) (value_text value text).utf8 (ascii_utf8 34 [] (omega arith) IsUtf8-nil) in
    ascii_utf8 32 (name ++ written_value value) (omega arith) (IsUtf8-append name (written_value value) named.utf8 (ascii_utf8 61 (34 ∷ escaped ++ 34 ∷ []) (omega arith) (ascii_utf8 34 (escaped ++ 34 ∷ []) (omega arith) inside)))

-- ---- what is known of a written attribute

pub record IsOwn (table scope : List (List ℕ × List ℕ)) (attribute : Name × List ℕ) : Type 0 where
  pub resolved : IsResolved scope attribute.0 (written_name table attribute.0)
  pub plain : binds (written_name table attribute.0) ≡ false
  pub text : IsText attribute.1

-- as read, each a written name with its value
abbrev pub declaring : List ℕ × List ℕ → List ℕ × List ℕ
declaring e = (codes "xmlns:" ++ e.1, e.0)

abbrev pub owning : List (List ℕ × List ℕ) → Name × List ℕ → List ℕ × List ℕ
owning table a = (written_name table a.0, a.1)

abbrev pub read_attributes : List (List ℕ × List ℕ) → List (List ℕ × List ℕ) → List (Name × List ℕ) → List (List ℕ × List ℕ)
read_attributes table declared attributes = map declaring declared ++ map (owning table) attributes

abbrev pub tag_of : List (List ℕ × List ℕ) → List (List ℕ × List ℕ) → Name → List (Name × List ℕ) → Tag
tag_of table declared name attributes = record { name = written_name table name; attributes = read_attributes table declared attributes }

are_all : {A : Type 0} (F : A → Type 0) (f : A → List ℕ × List ℕ) (t : A → List ℕ) → ((x : A) → F x → IsAttribute Exact (f x).0 (f x).1 (t x)) → (xs : List A) (more : List (List ℕ × List ℕ)) (text : List ℕ) → Each F xs
    → AreAttributes Exact more text → AreAttributes Exact (map f xs ++ more) (flat_map t xs ++ text)
are_all F f t h [] more text each are = are
are_all F f t h (x ∷ xs) more text each are =
    (t x, flat_map t xs ++ text, h x each.0, are_all F f t h xs more text each.1 are, append_assoc (t x) (flat_map t xs) text)

are_last : {A : Type 0} (F : A → Type 0) (f : A → List ℕ × List ℕ) (t : A → List ℕ) → ((x : A) → F x → IsAttribute Exact (f x).0 (f x).1 (t x)) → (xs : List A) → Each F xs → AreAttributes Exact (map f xs) (flat_map t xs)
are_last F f t h [] each = refl
are_last F f t h (x ∷ xs) each = (t x, flat_map t xs, h x each.0, are_last F f t h xs each.1, refl)

start_text : (name declarations attributes shut : List ℕ) → (60 ∷ name ++ declarations ++ attributes) ++ shut ≡ 60 ∷ (name ++ (declarations ++ attributes) ++ [] ++ shut)
start_text name declarations attributes shut = simp (append_assoc, append-nil)

declares : (e : List ℕ × List ℕ) → IsDeclared e → Binds e.1 (codes "xmlns:" ++ e.1)
declares e d = declared_name e.1 d.prefix.part

declared_attribute : (e : List ℕ × List ℕ) → IsDeclared e → IsAttribute Exact (declaring e).0 (declaring e).1 (written_declaration e)
declared_attribute e d = assigned (codes "xmlns:" ++ e.1) e.0 (declares e d).named d.text

declared_utf8 : (e : List ℕ × List ℕ) → IsDeclared e → IsUtf8 (written_declaration e)
declared_utf8 e d = assigned_utf8 (codes "xmlns:" ++ e.1) e.0 (declares e d).named d.text

-- ---- tests

pub none_true : (tests : List (Bool × DocWhy)) → Each (λ t. t.0 ≡ false) tests → first_true tests ≡ None
none_true [] h = refl
none_true (t ∷ ts) h = rw h.0 (none_true ts h.1)

not_of : (b : Bool) → b ≡ true → not b ≡ false
not_of b e = rw e refl

free : (e : List ℕ × List ℕ) → IsDeclared e → is_reserved (e.1, e.0) ≡ false
unfolding is_reserved
free e d = rw (d.prefix.not_xmlns, d.not_xmlns, d.prefix.not_xml, d.not_xml, d.some) refl

module _ (table scope : List (List ℕ × List ℕ)) where
  own_attribute : (a : Name × List ℕ) → IsOwn table scope a → IsAttribute Exact (owning table a).0 (owning table a).1 (written_attribute table a)
  own_attribute a o = assigned (written_name table a.0) a.1 o.resolved.named o.text

  own_utf8 : (a : Name × List ℕ) → IsOwn table scope a → IsUtf8 (written_attribute table a)
  own_utf8 a o = assigned_utf8 (written_name table a.0) a.1 o.resolved.named o.text

  -- ---- which attributes bind

  no_bindings : (attributes : List (Name × List ℕ)) → Each (IsOwn table scope) attributes → bindings_of (map (owning table) attributes) ≡ []
  no_bindings [] own = refl
  no_bindings (a ∷ later) own = rw own.0.plain (no_bindings later own.1)

  bindings : (declared : List (List ℕ × List ℕ)) (attributes : List (Name × List ℕ)) → Each IsDeclared declared → Each (IsOwn table scope) attributes → bindings_of (read_attributes table declared attributes) ≡ turned declared
  bindings [] attributes ds own = no_bindings attributes own
  bindings (e ∷ es) attributes ds own =
      let b = declares e ds.0 in
      rw b.binding (λ i. (b.prefix_is i, e.0) ∷ bindings es attributes ds.1 own i)

  plain_own : (attributes : List (Name × List ℕ)) → Each (IsOwn table scope) attributes → plain_of (map (owning table) attributes) ≡ map (owning table) attributes
  plain_own [] own = refl
  plain_own (a ∷ later) own = rw own.0.plain (ap (λ l. owning table a ∷ l) (plain_own later own.1))

  plains : (declared : List (List ℕ × List ℕ)) (attributes : List (Name × List ℕ)) → Each IsDeclared declared → Each (IsOwn table scope) attributes → plain_of (read_attributes table declared attributes) ≡ map (owning table) attributes
  plains [] attributes ds own = plain_own attributes own
  plains (e ∷ es) attributes ds own = rw (declares e ds.0).binding (plains es attributes ds.1 own)

  own_names : (attributes : List (Name × List ℕ)) → Each (IsOwn table scope) attributes → map (λ (a : List ℕ × List ℕ). (attribute_name scope a.0, a.1)) (map (owning table) attributes) ≡ attributes
  own_names [] own = refl
  own_names (a ∷ later) own = λ i. (own.0.resolved.attribute i, a.1) ∷ own_names later own.1 i

  -- ---- no name stands twice

  same_own : (a b : Name × List ℕ) → IsOwn table scope a → IsOwn table scope b → name_eq b.0 a.0 ≡ false → bytes_eq (written_name table b.0) (written_name table a.0) ≡ false
  same_own a b o p apart = differs (written_name table b.0) (written_name table a.0) (λ e.
      let same : b.0 ≡ a.0 = sym p.resolved.attribute ∙ ap (attribute_name scope) e ∙ o.resolved.attribute in
      let spaces : bytes_eq b.0.space a.0.space ≡ true = (bytes_eq-Decides b.0.space a.0.space).1 (ap (λ (n : Name). n.space) same) in
      let locals : bytes_eq b.0.local a.0.local ≡ true = (bytes_eq-Decides b.0.local a.0.local).1 (ap (λ (n : Name). n.local) same) in
      true≢false (sym (and_from (bytes_eq b.0.space a.0.space) (bytes_eq b.0.local a.0.local) spaces locals) ∙ apart))

  own_apart : (attributes : List (Name × List ℕ)) → Each (IsOwn table scope) attributes → expanded_twice attributes ≡ false → written_twice (map (owning table) attributes) ≡ false
  own_apart [] own e = refl
  own_apart (a ∷ later) own e =
      let parts = or_false (has_name a.0 later) (expanded_twice later) e in
      let each = each_both (IsOwn table scope) (λ b. name_eq b.0 a.0 ≡ false) later own.1 (any_none (λ b. name_eq b.0 a.0) later parts.0) in
      let none = none_any (λ b. bytes_eq b.0 (written_name table a.0)) (map (owning table) later) (each_map (λ b. bytes_eq b.0 (written_name table a.0) ≡ false) (owning table) later (each_by (λ b. IsOwn table scope b × (name_eq b.0 a.0 ≡ false)) (λ b. bytes_eq (written_name table b.0) (written_name table a.0) ≡ false) (λ b h. same_own a b own.0 h.0 h.1) later each)) in
      rw none (own_apart later own.1 parts.1)

  declared_apart : (e f : List ℕ × List ℕ) → (e.1 ≡ f.1 → ⊥) → bytes_eq (codes "xmlns:" ++ f.1) (codes "xmlns:" ++ e.1) ≡ false
  declared_apart e f apart = differs (codes "xmlns:" ++ f.1) (codes "xmlns:" ++ e.1) (λ same. apart (sym (ap (drop 6) same)))

  own_declared : (e : List ℕ × List ℕ) (a : Name × List ℕ) → IsDeclared e → IsOwn table scope a → bytes_eq (written_name table a.0) (codes "xmlns:" ++ e.1) ≡ false
  own_declared e a d o = differs (written_name table a.0) (codes "xmlns:" ++ e.1) (λ same. true≢false (sym (declares e d).binding ∙ ap binds (sym same) ∙ o.plain))

  all_apart : (declared : List (List ℕ × List ℕ)) (attributes : List (Name × List ℕ)) → Each IsDeclared declared → Apart declared → Each (IsOwn table scope) attributes → expanded_twice attributes ≡ false → written_twice (read_attributes table declared attributes) ≡ false
  all_apart [] attributes ds apart own e = own_apart attributes own e
  all_apart (d ∷ ds) attributes all apart own e =
      let F = λ (b : List ℕ × List ℕ). bytes_eq b.0 (codes "xmlns:" ++ d.1) ≡ false in
      let front = each_map F declaring ds (each_by (λ f. d.1 ≡ f.1 → ⊥) (λ f. bytes_eq (codes "xmlns:" ++ f.1) (codes "xmlns:" ++ d.1) ≡ false) (declared_apart d) ds apart.0) in
      let back = each_map F (owning table) attributes (each_by (IsOwn table scope) (λ a. bytes_eq (written_name table a.0) (codes "xmlns:" ++ d.1) ≡ false) (λ a o. own_declared d a all.0 o) attributes own) in
      let none = none_any (λ b. bytes_eq b.0 (codes "xmlns:" ++ d.1)) (read_attributes table ds attributes) (each_append F (map declaring ds) (map (owning table) attributes) front back) in
      rw none (all_apart ds attributes all.1 apart.1 own e)

  -- ---- the tag

  module _ (declared : List (List ℕ × List ℕ)) (name : Name) (attributes : List (Name × List ℕ)) (ds : Each IsDeclared declared) (apart : Apart declared)
      (named : IsResolved scope name (written_name table name)) (own : Each (IsOwn table scope) attributes) (once : expanded_twice attributes ≡ false) where
    abbrev tag : Tag
    tag = tag_of table declared name attributes

    abbrev declarations : List ℕ
    declarations = flat_map written_declaration declared

    abbrev start : List ℕ
    start = written_start table declarations name attributes

    abbrev listed : List ℕ
    listed = declarations ++ flat_map (written_attribute table) attributes

    abbrev inner : List ℕ → List ℕ
    inner shut = written_name table name ++ listed ++ [] ++ shut

    is_tag : (shut : List ℕ) → IsTag Exact shut tag (inner shut)
    is_tag shut = record {
      listed = listed;
      space = [];
      named = named.named;
      are = are_all IsDeclared declaring written_declaration declared_attribute declared (map (owning table) attributes) (flat_map (written_attribute table) attributes) ds (are_last (IsOwn table scope) (owning table) (written_attribute table) own_attribute attributes own);
      blank = refl;
      text_is = refl;
    }

    pub start_form : PieceForm (Start tag) (start ++ 62 ∷ [])
    start_form = (inner (62 ∷ []), is_tag (62 ∷ []), start_text (written_name table name) declarations (flat_map (written_attribute table) attributes) (62 ∷ []))

    pub empty_form : PieceForm (Empty tag) (start ++ 47 ∷ 62 ∷ [])
    empty_form = (inner (47 ∷ 62 ∷ []), is_tag (47 ∷ 62 ∷ []), start_text (written_name table name) declarations (flat_map (written_attribute table) attributes) (47 ∷ 62 ∷ []))

    pub start_utf8 : IsUtf8 start
    start_utf8 =
        let front = IsUtf8-append (60 ∷ written_name table name) declarations (ascii_utf8 60 (written_name table name) (omega arith) named.named.utf8) (flat_utf8 IsDeclared written_declaration declared_utf8 declared ds) in
        IsUtf8-append (60 ∷ written_name table name ++ declarations) (flat_map (written_attribute table) attributes) front (flat_utf8 (IsOwn table scope) (written_attribute table) own_utf8 attributes own)

    pub bindings_are : bindings_of tag.attributes ≡ turned declared
    bindings_are = bindings declared attributes ds own

    names_none : (p : List ℕ → Bool) → p (written_name table name) ≡ false → ((e : List ℕ × List ℕ) → IsDeclared e → p (codes "xmlns:" ++ e.1) ≡ false) → ((a : Name × List ℕ) → IsOwn table scope a → p (written_name table a.0) ≡ false) → list_any p (names_of tag) ≡ false
    names_none p here there other =
        let F = λ (b : List ℕ × List ℕ). p b.0 ≡ false in
        let front = each_map F declaring declared (each_by IsDeclared (λ e. p (codes "xmlns:" ++ e.1) ≡ false) there declared ds) in
        let back = each_map F (owning table) attributes (each_by (IsOwn table scope) (λ a. p (written_name table a.0) ≡ false) other attributes own) in
        none_any p (names_of tag) (here, each_map (λ w. p w ≡ false) (λ (a : List ℕ × List ℕ). a.0) tag.attributes (each_append F (map declaring declared) (map (owning table) attributes) front back))

    no_binding : (p : List ℕ × List ℕ → Bool) → ((e : List ℕ × List ℕ) → IsDeclared e → p (e.1, e.0) ≡ false) → list_any p (bindings_of tag.attributes) ≡ false
    no_binding p h = ap (list_any p) bindings_are ∙ none_any p (turned declared) (each_map (λ b. p b ≡ false) (λ (e : List ℕ × List ℕ). (e.1, e.0)) declared (each_by IsDeclared (λ e. p (e.1, e.0) ≡ false) h declared ds))

    good_names : has_bad_name tag ≡ false
    good_names = names_none (λ w. not (is_qname w)) (not_of (is_qname (written_name table name)) named.qname) (λ e d. not_of (is_qname (codes "xmlns:" ++ e.1)) (declares e d).qname) (λ a o. not_of (is_qname (written_name table a.0)) o.resolved.qname)

    short_names : has_long_name tag ≡ false
    short_names =
        let names : list_any is_long (names_of tag) ≡ false = names_none is_long named.short (λ e d. (declares e d).short) (λ a o. o.resolved.short) in
        let spaces : list_any (λ (b : List ℕ × List ℕ). not (nat_le (length b.1) 1023)) (bindings_of tag.attributes) ≡ false = no_binding (λ (b : List ℕ × List ℕ). not (nat_le (length b.1) 1023)) (λ e d. not_of (nat_le (length e.0) 1023) d.short) in
        ap (λ b. b || list_any (λ (b : List ℕ × List ℕ). not (nat_le (length b.1) 1023)) (bindings_of tag.attributes)) names ∙ spaces

    free_prefixes : has_reserved tag ≡ false
    free_prefixes = no_binding is_reserved free

    module _ (outer : List (List ℕ × List ℕ)) (scope_is : turned declared ++ outer ≡ scope) where
      pub inside : tag_scope tag outer ≡ scope
      inside = ap (λ (b : List (List ℕ × List ℕ)). b ++ outer) bindings_are ∙ scope_is

      bound_names : has_unbound tag (tag_scope tag outer) ≡ false
      bound_names =
          let F = λ (b : List ℕ × List ℕ). is_unbound scope (prefix_of b.0) ≡ false in
          let others : list_any (λ (a : List ℕ × List ℕ). is_unbound scope (prefix_of a.0)) (plain_of tag.attributes) ≡ false =
          ap (list_any (λ (a : List ℕ × List ℕ). is_unbound scope (prefix_of a.0))) (plains declared attributes ds own)
          ∙ none_any (λ (a : List ℕ × List ℕ). is_unbound scope (prefix_of a.0)) (map (owning table) attributes) (each_map F (owning table) attributes (each_by (IsOwn table scope) (λ a. is_unbound scope (prefix_of (written_name table a.0)) ≡ false) (λ a o. o.resolved.bound) attributes own)) in
          ap (has_unbound tag) inside ∙ ap (λ b. b || list_any (λ (a : List ℕ × List ℕ). is_unbound scope (prefix_of a.0)) (plain_of tag.attributes)) named.bound ∙ others

      pub attributes_are : attributes_of (tag_scope tag outer) tag.attributes ≡ attributes
      attributes_are =
          ap (λ (s : List (List ℕ × List ℕ)). attributes_of s tag.attributes) inside
          ∙ ap (map (λ (a : List ℕ × List ℕ). (attribute_name scope a.0, a.1))) (plains declared attributes ds own)
          ∙ own_names attributes own

      no_duplicate : has_duplicate tag (tag_scope tag outer) ≡ false
      no_duplicate = ap (λ b. b || expanded_twice (attributes_of (tag_scope tag outer) tag.attributes)) (all_apart declared attributes ds apart own once) ∙ ap expanded_twice attributes_are ∙ once

      pub name_is : element_name (tag_scope tag outer) tag.name ≡ name
      name_is = ap (λ (s : List (List ℕ × List ℕ)). element_name s tag.name) inside ∙ named.element

      pub tag_passes : (depth : ℕ) → nat_le 64 depth ≡ false → first_true (start_tests tag outer false depth) ≡ None
      tag_passes depth room = none_true (start_tests tag outer false depth) (good_names, (short_names, (free_prefixes, (bound_names, (no_duplicate, (refl, (room, tt)))))))
