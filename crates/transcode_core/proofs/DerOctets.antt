-- What DER writes of a value is octets, where it is no longer than an input may be.
use Rattle.std.specs.Prelude.{IsUtf8, slice_get}
use Rattle.std.proofs.Common.{◌≡◌, ℕ, zero, suc, ◌+◌, ◌*◌, ◌/◌, ◌%◌, ◌<◌, ◌≤◌, Bool, true, false, cond, ltb, eqb, List, [], ◌∷◌, ◌++◌, length, All, refl, sym, ap, subst, arith, inl, inr, Option, Some, None, ltb-true}
use Rattle.std.proofs.lemmas.Bool.{and_parts}
use Rattle.std.proofs.lemmas.List.{length-append}
use Rattle.std.proofs.lemmas.List.Elements.{All-head, All-tail}
use lib.Utf8.{scalar, scalars, scalar_cases, encode, encodes}
use Rattle.base_trees.specs.Rose.{Rose, node, Roses, none, more, label_of, kids_of, length_all}
use Rattle.simple_types.specs.declared.labels.ValueLabel.{ValueLabel}
use Rattle.simple_types.specs.declared.labels.ValueLabel.TheVariants as value
use Rattle.asn_types.specs.declared.marks.Instruction.{Instruction}
use Rattle.asn_types.specs.declared.modules.Assignment.{Assignment}
use Rattle.asn_types.specs.declared.types.Form.{Form}
use Rattle.asn_types.specs.declared.types.Form.TheVariants as form
use Rattle.asn_types.specs.declared.types.TypeLabel.{TypeLabel}
use Rattle.asn_types.specs.Refs.{resolve}
use Rattle.asn_values.specs.Values.{ComponentPlace, places_in, places, below, IsTextOf, FitsAt, FitEach, In}
use Rattle.der_fields.specs.Octets.{octets_of, value_from, length_octets, high_sevens, sevens, form_bit, context_identifier}
use Rattle.der_fields.specs.FieldsReading.{AreOctets}
use Rattle.der_fields.proofs.FieldsNumbers.{Leads, shape_of, signed_again}
use Rattle.der_fields.specs.Encoding.{tagged, tags_of, universal_identifier, is_constructed, identifier, is_open, item_number, bool_octet, contents, headed, wrapped, der, each_der, distinguished}

pub all_octets : (xs : List ℕ) → All (λ x. x < 256) xs → AreOctets xs
all_octets [] h = tt
all_octets (x ∷ xs) h = (All-head (λ z. z < 256) x xs h, all_octets xs (All-tail (λ z. z < 256) x xs h))

both_octets : (xs ys : List ℕ) → AreOctets xs → AreOctets ys → AreOctets (xs ++ ys)
both_octets [] ys h k = k
both_octets (x ∷ xs) ys h k = (h.0, both_octets xs ys h.1 k)

cond_octets : (b : Bool) (xs ys : List ℕ) → (b ≡ true → AreOctets xs) → (b ≡ false → AreOctets ys) → AreOctets (cond b xs ys)
cond_octets true xs ys h k = h refl
cond_octets false xs ys h k = k refl

-- ---- texts in UTF-8

encode_octets : (c : ℕ) → c < 1114112 → AreOctets (encode c)
unfolding encode
encode_octets c small =
    cond_octets (ltb c 128) _ _ (λ e. (omega (arith, ltb-true c 128 e), tt)) (λ _.
    cond_octets (ltb c 2048) _ _ (λ e. (omega (arith, ltb-true c 2048 e), (omega arith, tt))) (λ _.
    cond_octets (ltb c 65536) _ _ (λ e. (omega (arith, ltb-true c 65536 e), (omega arith, (omega arith, tt)))) (λ _.
    (omega (arith, small), (omega arith, (omega arith, (omega arith, tt)))))))

below_scalars : (c : ℕ) → scalar c ≡ true → c < 1114112
below_scalars c e = elim (scalar_cases c e) [ inl low ↦ omega (arith, low) | inr high ↦ high.1 ]

encodes_octets : (cs : List ℕ) → scalars cs ≡ true → AreOctets (encodes cs)
encodes_octets [] e = tt
encodes_octets (c ∷ cs) e =
    let p = and_parts (scalar c) (scalars cs) e in
    both_octets (encode c) (encodes cs) (encode_octets c (below_scalars c p.0)) (encodes_octets cs p.1)

text_octets : (text : List ℕ) → IsUtf8 text → AreOctets text
text_octets text (cs, (sound, is)) = subst AreOctets is (encodes_octets cs sound)

-- ---- identifiers and lengths

pick_octets : (b : Bool) (xs ys : List ℕ) → AreOctets xs → AreOctets ys → AreOctets (elim b as (λ _. List ℕ) [ true ↦ xs | false ↦ ys ])
pick_octets true xs ys h k = h
pick_octets false xs ys h k = k

high_octets : (turns n : ℕ) (tail : List ℕ) → AreOctets tail → AreOctets (high_sevens turns n tail)
unfolding high_sevens
high_octets zero n tail h = h
high_octets (suc turns) n tail h =
    pick_octets (eqb n 0) tail (high_sevens turns (n / 128) ((128 + n % 128) ∷ tail)) h (high_octets turns (n / 128) ((128 + n % 128) ∷ tail) (omega arith, h))

form_small : (c : Bool) → form_bit c ≤ 32
form_small true = omega arith
form_small false = omega arith

context_octets : (c : Bool) (i : ℕ) → AreOctets (context_identifier c i)
context_octets c i =
    cond_octets (ltb i 31) ((128 + form_bit c + i) ∷ []) ((159 + form_bit c) ∷ sevens i)
    (λ e. (omega (arith, ltb-true i 31 e, form_small c), tt)) (λ _. (omega (arith, form_small c), high_octets i (i / 128) (i % 128 ∷ []) (omega arith, tt)))

universal_octets : (f : Form) → AreOctets (universal_identifier f)
universal_octets form.Bool = (omega arith, tt)
universal_octets (form.Int least greatest) = (omega arith, tt)
universal_octets (form.Numbers numbers) = (omega arith, tt)
universal_octets (form.Words identifiers words) = (omega arith, tt)
universal_octets (form.Order identifiers) = (omega arith, tt)
universal_octets (form.Utf8 least most class) = (omega arith, tt)
universal_octets (form.Sequence parts) = (omega arith, tt)
universal_octets (form.Choice parts) = (omega arith, tt)
universal_octets (form.SequenceOf part least most) = (omega arith, tt)
universal_octets (form.Ref to) = (omega arith, tt)

identifier_octets : (tag : Option ℕ) (f : Form) → AreOctets (identifier tag f)
identifier_octets None f = universal_octets f
identifier_octets (Some i) f = context_octets (is_constructed f) i

value_up : (acc : ℕ) (xs : List ℕ) → acc ≤ value_from acc xs
value_up acc [] = omega arith
value_up acc (x ∷ xs) = omega (arith, value_up (256 * acc + x) xs)

-- a number of more than four octets is larger than an input may be long
others_few : (x : ℕ) (xs : List ℕ) → AreOctets xs → Leads 256 x xs → value_from x xs ≤ 16777216 → length xs ≤ 3
others_few x [] all leads small = omega arith
others_few x (a ∷ []) all leads small = omega arith
others_few x (a ∷ b ∷ []) all leads small = omega arith
others_few x (a ∷ b ∷ c ∷ []) all leads small = omega arith
others_few x (a ∷ b ∷ c ∷ d ∷ rest) all leads small =
    absurd (omega (arith, leads, all.0, small, value_up (256 * (256 * (256 * (256 * x + a) + b) + c) + d) rest))

least_few : (n : ℕ) → n ≤ 16777216 → length (octets_of 256 n) ≤ 4
least_few n small =
    let k = shape_of 256 (omega arith) n in
    let few = others_few k.first k.others k.octets k.leads (subst (λ m. m ≤ 16777216) (sym k.value) small) in
    omega (arith, ap length k.is, few)

least_octets : (n : ℕ) → AreOctets (octets_of 256 n)
least_octets n = let k = shape_of 256 (omega arith) n in subst AreOctets (sym k.is) (k.small, k.octets)

sized_octets : (n : ℕ) → n ≤ 16777216 → AreOctets (length_octets n)
sized_octets n small =
    cond_octets (ltb n 128) (n ∷ []) ((128 + length (octets_of 256 n)) ∷ octets_of 256 n)
    (λ e. (omega (arith, ltb-true n 128 e), tt)) (λ _. (omega (arith, least_few n small), least_octets n))

-- ---- nodes

headed_octets : (head octets : List ℕ) → AreOctets head → AreOctets octets → length octets ≤ 16777216 → AreOctets (headed head octets)
headed_octets head octets h all small =
    both_octets head (length_octets (length octets) ++ octets) h (both_octets (length_octets (length octets)) octets (sized_octets (length octets) small) all)

wrapped_long : (tag : Option ℕ) (f : Form) (octets : List ℕ) → length octets ≤ length (wrapped tag f octets)
wrapped_long tag f octets = by (is_open tag f)
  where
    by : (b : Bool) → length octets ≤ length (cond b octets (headed (identifier tag f) octets))
    by true = omega arith
    by false = omega (arith, length-append (identifier tag f) (length_octets (length octets) ++ octets), length-append (length_octets (length octets)) octets)

wrapped_octets : (tag : Option ℕ) (f : Form) (octets : List ℕ) → AreOctets octets → length octets ≤ 16777216 → AreOctets (wrapped tag f octets)
wrapped_octets tag f octets all small = cond_octets (is_open tag f) octets (headed (identifier tag f) octets) (λ _. all) (λ _. headed_octets (identifier tag f) octets (identifier_octets tag f) all small)

bool_octets : (b : Bool) → AreOctets (bool_octet b ∷ [])
bool_octets true = (omega arith, tt)
bool_octets false = (omega arith, tt)

-- a text of a value is octets
abbrev HasOctets : ValueLabel → Type 0
HasOctets (value.Utf8 text) = AreOctets text
HasOctets _ = Unit {0}

has_octets : (l : TypeLabel) (ts : List (Rose TypeLabel)) (f : Form) (marks : List Instruction) (v : ValueLabel) (n : ℕ) (ps : List ComponentPlace)
    → places_in l ts f v n ≡ Some ps → IsTextOf f marks v → HasOctets v
has_octets l ts f marks (value.Bool b) n ps e h = tt
has_octets l ts f marks (value.Int z) n ps e h = tt
has_octets l ts f marks (value.Enum i) n ps e h = tt
has_octets l ts f marks (value.Sequence present) n ps e h = tt
has_octets l ts f marks (value.Choice i) n ps e h = tt
has_octets l ts f marks value.SequenceOf n ps e h = tt
has_octets l ts (form.Utf8 least most class) marks (value.Utf8 text) n ps e h = text_octets text h.0
has_octets l ts form.Bool marks (value.Utf8 text) n ps e h = absurd cc
has_octets l ts (form.Int least greatest) marks (value.Utf8 text) n ps e h = absurd cc
has_octets l ts (form.Numbers numbers) marks (value.Utf8 text) n ps e h = absurd cc
has_octets l ts (form.Words identifiers words) marks (value.Utf8 text) n ps e h = absurd cc
has_octets l ts (form.Order identifiers) marks (value.Utf8 text) n ps e h = absurd cc
has_octets l ts (form.Sequence parts) marks (value.Utf8 text) n ps e h = absurd cc
has_octets l ts (form.Choice parts) marks (value.Utf8 text) n ps e h = absurd cc
has_octets l ts (form.SequenceOf part least most) marks (value.Utf8 text) n ps e h = absurd cc
has_octets l ts (form.Ref to) marks (value.Utf8 text) n ps e h = absurd cc

contents_octets : (f : Form) (v : ValueLabel) (kids : List ℕ) → HasOctets v → (length kids ≤ 16777216 → AreOctets kids) → length (contents f v kids) ≤ 16777216 → AreOctets (contents f v kids)
contents_octets f (value.Bool b) kids text all small = bool_octets b
contents_octets f (value.Int z) kids text all small = (signed_again z).octets
contents_octets f (value.Enum i) kids text all small = (signed_again (item_number f i)).octets
contents_octets f (value.Utf8 t) kids text all small = text
contents_octets f (value.Sequence present) kids text all small = all small
contents_octets f (value.Choice i) kids text all small = all small
contents_octets f value.SequenceOf kids text all small = all small

module _ (M : List Assignment) where
  abbrev kids_der : List (Option ℕ) → Roses ValueLabel → Option (List ComponentPlace) → List ℕ
  kids_der tags vs o = elim o as (λ _. List ℕ) [ None ↦ [] | Some ps ↦ each_der M (tagged tags ps) vs ]

  abbrev KidsFit : ℕ → Roses ValueLabel → Option (List ComponentPlace) → Type 0
  KidsFit depth vs o = elim o as (λ _. Type 0) [ None ↦ ⊥ | Some ps ↦ FitEach M depth ps vs ]

  node_by : (tag : Option ℕ) (u : Rose TypeLabel) (v : ValueLabel) (vs : Roses ValueLabel) (depth : ℕ)
      → ((ps : List ComponentPlace) → FitEach M depth ps vs → length (each_der M (tagged (tags_of v (length_all vs)) ps) vs) ≤ 16777216 → AreOctets (each_der M (tagged (tags_of v (length_all vs)) ps) vs))
      → IsTextOf (label_of u).form (label_of u).marks v → (o : Option (List ComponentPlace)) → places u v (length_all vs) ≡ o → KidsFit depth vs o
      → length (wrapped tag (label_of u).form (contents (label_of u).form v (kids_der (tags_of v (length_all vs)) vs o))) ≤ 16777216
      → AreOctets (wrapped tag (label_of u).form (contents (label_of u).form v (kids_der (tags_of v (length_all vs)) vs o)))
  node_by tag u v vs depth each text None is fits small = absurd fits
  node_by tag u v vs depth each text (Some ps) is fits small =
      let f = (label_of u).form in
      let kids = each_der M (tagged (tags_of v (length_all vs)) ps) vs in
      let inner : length (contents f v kids) ≤ 16777216 = omega (arith, wrapped_long tag f (contents f v kids), small) in
      wrapped_octets tag f (contents f v kids)
      (contents_octets f v kids (has_octets (label_of u) (kids_of u) f (label_of u).marks v (length_all vs) ps is text) (λ few. each ps fits few) inner) inner

  mutual
    unfolding der FitsAt

    node_octets : (depth : ℕ) (tag : Option ℕ) (t : Rose TypeLabel) (v : Rose ValueLabel) → FitsAt M depth t v → length (der M tag t v) ≤ 16777216 → AreOctets (der M tag t v)
    node_octets depth tag t (node v vs) fits small =
        node_by tag (resolve M t) v vs depth (λ ps. each_octets depth (tags_of v (length_all vs)) ps vs) fits.2.0 (places (resolve M t) v (length_all vs)) refl fits.1 small

    each_octets : (depth : ℕ) (tags : List (Option ℕ)) (ps : List ComponentPlace) (vs : Roses ValueLabel) → FitEach M depth ps vs
        → length (each_der M (tagged tags ps) vs) ≤ 16777216 → AreOctets (each_der M (tagged tags ps) vs)
    each_octets depth tags ps none fits small = tt
    each_octets depth tags [] (more v vs) fits small = absurd fits
    each_octets depth [] (p ∷ ps) (more v vs) fits small = tt
    each_octets depth (tag ∷ tags) (p ∷ ps) (more v vs) fits small =
        let one = der M tag p.type v in
        let others = each_der M (tagged tags ps) vs in
        let long : length (one ++ others) ≡ length one + length others = length-append one others in
        both_octets one others (node_octets (below p.role depth) tag p.type v fits.0.0 (omega (arith, long, small))) (each_octets depth tags ps vs fits.1 (omega (arith, long, small)))

  assigned : (o : Option Assignment) (v : Rose ValueLabel) → elim o as (λ _. Type 0) [ None ↦ ⊥ | Some a ↦ FitsAt M 1 a.body v ]
      → length (elim o as (λ _. List ℕ) [ None ↦ [] | Some a ↦ der M None a.body v ]) ≤ 16777216
      → AreOctets (elim o as (λ _. List ℕ) [ None ↦ [] | Some a ↦ der M None a.body v ])
  assigned None v fits small = tt
  assigned (Some a) v fits small = node_octets 1 None a.body v fits small

  pub distinguished_octets : (t : ℕ) (v : Rose ValueLabel) → In M t v → length (distinguished M t v) ≤ 16777216 → AreOctets (distinguished M t v)
  distinguished_octets t v is small = assigned (slice_get M t) v is.0 small
