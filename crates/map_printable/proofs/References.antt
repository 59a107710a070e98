-- The references of a map are references of ASN.1, and the names of its components are names of XML.
use Rattle.std.proofs.Common.{◌≡◌, ◌≢◌, ℕ, zero, suc, ◌<◌, Bool, true, false, cond, List, [], ◌∷◌, ◌++◌, length, take, All, Contains, Option, Some, None, inl, inr, true≢false, refl, sym, ap, subst, ◌∙◌, codes, arith}
use Rattle.std.specs.Prelude.{slice_get, unwrap_or, option_and_then, IfSome, chars}
use Rattle.std.specs.Option.{option_map}
use Rattle.std.specs.Ordering.{ordering_reverse, ordering_then, nat_cmp}
use Rattle.std.specs.Cmp.Lexicographic.{slice_cmp}
use Rattle.std.specs.List.Sorted.{IsStrictlySortedBy}
use Rattle.std.specs.declared.cmp.Ordering.{Ordering}
use Rattle.std.specs.declared.cmp.Ordering.TheVariants.{Less, Equal, Greater}
use Rattle.std.proofs.lemmas.Cmp.{nat_list_cmp_total}
use Rattle.std.proofs.lemmas.List.Elements.{All-head, All-tail, All-take, All-contains, All-from_recursion, Contains-append_cases}
use Rattle.std.proofs.lemmas.Map.Keys.{sorted_head, sorted_tail}
use Rattle.base_texts.specs.declared.texts.Name.{Name}
use Rattle.asn_names.specs.declared.conversion.NameKind.TheVariants.{Reference}
use Rattle.asn_names.specs.ReservedWords.{reserved_words}
use Rattle.asn_names.specs.Taking.{IsTaken}
use Rattle.schema_components.specs.Declarable.{is_declarable}
use Rattle.schema_components.specs.declared.components.ElementDecl.{ElementDecl}
use Rattle.schema_components.specs.declared.components.SimpleDef.{SimpleDef}
use Rattle.schema_components.specs.declared.components.ComplexDef.{ComplexDef}
use Rattle.schema_components.specs.declared.components.GlobalAttribute.{GlobalAttribute}
use Rattle.schema_components.specs.Components.{Set}
use Rattle.schema_components.specs.Linked.{IsElement, IsAttribute, IsSimpleType, IsComplexType, IsLinked}
use Rattle.map_subjects.specs.declared.subjects.Subject.{Subject}
use Rattle.map_subjects.specs.declared.subjects.Subject.TheVariants as subject
use Rattle.map_subjects.specs.declared.subjects.NamedSubject.{NamedSubject}
use Rattle.map_subjects.specs.Subjects.{has_nillable, complex_name, name_of, entry_cmp, AreEntries, same_subject, place_in}
use Rattle.map_subjects.proofs.InOrder.{turned}
use Rattle.map_subjects.proofs.Earlier.{self-same}
use Rattle.map_assignments.specs.Mapped.{wanted_reference}
use Rattle.module_text.specs.Names.{is_reference}
use Rattle.map_printable.proofs.Names.{converted-reference, longer-reference}
use Rattle.map_printable.proofs.Characters.{IsXmlName, declared-xml, attribute-xml}
use Rattle.map_printable.proofs.Plans.{all_at}

-- ---- what is taken as a reference

pub never-reserved : (before : List (List ℕ)) (name given : List ℕ) → IsTaken Reference before name given → Contains reserved_words given → ⊥
never-reserved before name given (inl (free, is)) has = free.1 (subst (Contains reserved_words) is has)
never-reserved before name given (inr (_, n, least, is)) has = least.free.1 (subst (Contains reserved_words) is has)

pub reference-some : (name : List ℕ) → is_reference name ≡ true → name ≢ []
reference-some name e is = absurd (true≢false (sym e ∙ ap is_reference is))

-- ---- what stands before an entry

only : (x z : NamedSubject) → Contains (x ∷ []) z → x ≡ z
only x z (zero, below, is) = is
only x z (suc k, below, is) = absurd (omega (arith, below))

-- an entry isn't below one that is below it
not-both : (x e : NamedSubject) → entry_cmp x e ≡ Less → entry_cmp e x ≡ Less → ⊥
not-both x e below above = let h : Less ≡ Greater = sym below ∙ turned x e ∙ ap ordering_reverse above in absurd (cc)

sorted-back : (firsts others : List NamedSubject) → IsStrictlySortedBy entry_cmp (firsts ++ others) → IsStrictlySortedBy entry_cmp others
sorted-back [] others h = h
sorted-back (f ∷ firsts) others h = sorted-back firsts others (sorted_tail entry_cmp f (firsts ++ others) h)

stands-before : (firsts others : List NamedSubject) (e x : NamedSubject) → IsStrictlySortedBy entry_cmp (firsts ++ e ∷ others) → Contains (firsts ++ e ∷ others) x → entry_cmp x e ≡ Less → Contains firsts x
stands-before firsts others e x sorted has below = elim (Contains-append_cases firsts (e ∷ others) x has) [
  | inl front ↦ front
  | inr back ↦ elim (Contains-append_cases (e ∷ []) others x back) [
    | inl itself ↦
        let same = only e x itself in
        let own : entry_cmp x x ≡ Less = subst (λ y. entry_cmp x y ≡ Less) same below in
        absurd (not-both x x own own)
    | inr behind ↦
        let all = All-from_recursion (λ y. entry_cmp e y ≡ Less) others (sorted_head entry_cmp e others (sorted-back firsts (e ∷ others) sorted)) in
        absurd (not-both x e below (All-contains (λ y. entry_cmp e y ≡ Less) others x all behind))
  ]
]

place-within : (firsts others : List NamedSubject) (w : Subject) (x : NamedSubject) → same_subject x.subject w ≡ true → Contains firsts x → place_in (firsts ++ others) w < length firsts
place-within [] others w x is has = absurd (omega (arith, has.1))
place-within (f ∷ firsts) others w x is has = by (same_subject f.subject w) refl (λ inside. place-within firsts others w x is inside)
  where
    by : (b : Bool) → same_subject f.subject w ≡ b → (Contains firsts x → place_in (firsts ++ others) w < length firsts)
        → (elim b [ true ↦ 0 | false ↦ suc (place_in (firsts ++ others) w) ]) < suc (length firsts)
    by true e rest = omega arith
    by false e rest = elim (Contains-append_cases (f ∷ []) firsts x has) [
      | inl first ↦ absurd (true≢false (sym (subst (λ (y : NamedSubject). same_subject y.subject w ≡ true) (sym (only f x first)) is) ∙ e))
      | inr inside ↦ let low = rest inside in omega (arith, low)
    ]

-- ---- the names of components

some-same : {A : Type 0} (x y : A) → Some x ≡ Some y → x ≡ y
some-same x y e = cc

nillable-named : (b : Bool) (o : Option Name) (a : Name) → cond b o None ≡ Some a → o ≡ Some a
nillable-named true o a e = e
nillable-named false o a e = absurd (cc)

module _ (s : Set) (linked : IsLinked s) where
  element-name : (o : Option ElementDecl) (name : Name) → ((e : ElementDecl) → o ≡ Some e → IsElement s e) → option_map (λ (e : ElementDecl). e.name) o ≡ Some name → IsXmlName name
  element-name None name known is = absurd (cc)
  element-name (Some e) name known is = subst IsXmlName (some-same e.name name is) (declared-xml e.name (known e refl).0)

  attribute-name : (o : Option GlobalAttribute) (name : Name) → ((a : GlobalAttribute) → o ≡ Some a → IsAttribute s a) → option_map (λ (a : GlobalAttribute). a.name) o ≡ Some name → IsXmlName name
  attribute-name None name known is = absurd (cc)
  attribute-name (Some a) name known is = subst IsXmlName (some-same a.name name is) (attribute-xml a.name (known a refl).0)

  declared : (o : Option Name) (name : Name) → IfSome o (λ n. is_declarable n ≡ true) → o ≡ Some name → IsXmlName name
  declared None name known is = absurd (cc)
  declared (Some n) name known is = subst IsXmlName (some-same n name is) (declared-xml n known)

  simple-name : (o : Option SimpleDef) (name : Name) → ((t : SimpleDef) → o ≡ Some t → IsSimpleType t) → option_and_then (λ (t : SimpleDef). t.name) o ≡ Some name → IsXmlName name
  simple-name None name known is = absurd (cc)
  simple-name (Some t) name known is = declared t.name name (known t refl).0 is

  complex-name : (o : Option ComplexDef) (name : Name) → ((c : ComplexDef) → o ≡ Some c → IsComplexType s c) → option_and_then (λ (c : ComplexDef). c.name) o ≡ Some name → IsXmlName name
  complex-name None name known is = absurd (cc)
  complex-name (Some c) name known is = declared c.name name (known c refl).named is

  complex-named : (n : ℕ) (name : Name) → complex_name s n ≡ Some name → IsXmlName name
  complex-named n name is = complex-name (slice_get s.complexes n) name (λ c got. all_at (IsComplexType s) s.complexes n c got linked.complexes) is

  pub subject-name : (w : Subject) (name : Name) → name_of s w ≡ Some name → IsXmlName name
  subject-name (subject.Element d) name is =
      element-name (slice_get (take s.globals s.elements) d) name
      (λ e got. all_at (IsElement s) (take s.globals s.elements) d e got (All-take (IsElement s) s.globals s.elements linked.elements)) is
  subject-name (subject.Attribute n) name is = attribute-name (slice_get s.attributes n) name (λ a got. all_at (IsAttribute s) s.attributes n a got linked.attributes) is
  subject-name (subject.Simple n) name is = simple-name (slice_get s.simples n) name (λ t got. all_at IsSimpleType s.simples n t got linked.simples) is
  subject-name (subject.Complex n) name is = complex-named n name is
  subject-name (subject.Nillable n) name is = complex-named n name (nillable-named (has_nillable s n) (complex_name s n) name is)

-- ---- what a reference is made from

abbrev pub AreReferences : List (List ℕ) → Type 0
AreReferences names = All (λ r. is_reference r ≡ true) names

earlier : (before : List (List ℕ)) (k : ℕ) → AreReferences before → k < length before → is_reference (unwrap_or (slice_get before k) []) ≡ true
earlier [] k are below = absurd (omega (arith, below))
earlier (r ∷ before) zero are below = All-head (λ n. is_reference n ≡ true) r before are
earlier (r ∷ before) (suc k) are below = earlier before k (All-tail (λ n. is_reference n ≡ true) r before are) (omega (arith, below))

-- by the ranks of the two, since the names are one
type-below : (a : Name) (n : ℕ) → entry_cmp (record { subject = subject.Complex n; name = a }) (record { subject = subject.Nillable n; name = a }) ≡ Less
type-below a n =
    ap (λ o. ordering_then o (ordering_then Less (slice_cmp nat_cmp a.local a.local))) (self-equal a.space)
  where
    level : (o : Ordering) → o ≡ ordering_reverse o → o ≡ Equal
    level Less e = absurd (cc)
    level Equal e = refl
    level Greater e = absurd (cc)

    self-equal : (xs : List ℕ) → slice_cmp nat_cmp xs xs ≡ Equal
    self-equal xs = let order = nat_list_cmp_total in level (slice_cmp nat_cmp xs xs) (order.antisymm xs xs)

-- the complex type stands before that of its nillable elements
type-before : (s : Set) (firsts others : List NamedSubject) (n : ℕ) (name : Name) → AreEntries s (firsts ++ record { subject = subject.Nillable n; name = name } ∷ others)
    → name_of s (subject.Nillable n) ≡ Some name → place_in (firsts ++ record { subject = subject.Nillable n; name = name } ∷ others) (subject.Complex n) < length firsts
type-before s firsts others n name entries is =
    let e : NamedSubject = record { subject = subject.Nillable n; name = name } in
    let x : NamedSubject = record { subject = subject.Complex n; name = name } in
    let has : Contains (firsts ++ e ∷ others) x = (entries.whole (subject.Complex n) name).1 (nillable-named (has_nillable s n) (complex_name s n) name is) in
    place-within firsts (e ∷ others) (subject.Complex n) x (self-same (subject.Complex n)) (stands-before firsts others e x entries.ascending has (type-below name n))

-- ---- all references

pub wanted-reference : (s : Set) (firsts others : List NamedSubject) (before : List (List ℕ)) (w : Subject) (name : Name) → AreEntries s (firsts ++ record { subject = w; name = name } ∷ others)
    → name_of s w ≡ Some name → length before ≡ length firsts → AreReferences before
    → is_reference (wanted_reference (place_in (firsts ++ record { subject = w; name = name } ∷ others)) before w name) ≡ true
wanted-reference s firsts others before (subject.Element d) name entries is long are = converted-reference (chars name.local)
wanted-reference s firsts others before (subject.Attribute n) name entries is long are = converted-reference (chars name.local)
wanted-reference s firsts others before (subject.Simple n) name entries is long are = converted-reference (chars name.local)
wanted-reference s firsts others before (subject.Complex n) name entries is long are = converted-reference (chars name.local)
wanted-reference s firsts others before (subject.Nillable n) name entries is long are =
    let place = place_in (firsts ++ record { subject = subject.Nillable n; name = name } ∷ others) (subject.Complex n) in
    let low = type-before s firsts others n name entries is in
    longer-reference (unwrap_or (slice_get before place) []) (codes "nillable") (earlier before place are (omega (arith, low, long))) refl
