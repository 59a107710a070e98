-- The prefixes of a document's namespaces: each is well formed, no two are the same, and each stands for its namespace.
use Rattle.std.proofs.Common.{◌≡◌, ℕ, suc, ◌+◌, ◌<◌, ◌≤◌, Bool, true, false, cond, eqb, List, [], ◌∷◌, ◌++◌, length, map, drop, get_or, Some, None, refl, sym, ap, subst, ◌∙◌, inl, inr, arith}
use Rattle.std.specs.Prelude.{◌⊎◌, ◌&&◌, ◌||◌, ◌%◌, ◌^◌, not, IsUtf8, nat_le, bytes_eq, codes, decimal}
use Rattle.std.specs.Str.{chars, is_utf8}
use Rattle.std.specs.Map.{lookup}
use Rattle.std.specs.List.{list_all}
use Rattle.std.specs.Str.{IsAscii}
use Rattle.std.proofs.lemmas.Str.{chars-IsAscii, chars_past_char, encode_ascii, IsUtf8-append, IsUtf8-from_ascii, IsUtf8-from_is_utf8}
use Rattle.std.proofs.Math.Utf8.{encode}
use Rattle.std.proofs.lemmas.Bool.{true≢false, cases_Bool, not-true, and_parts, le-leb}
use Rattle.std.proofs.lemmas.Fmt.{decimal_by_steps, decimal_injective, length-decimal-le, IsAscii-decimal}
use Rattle.std.proofs.lemmas.Slice.Eq.{bytes_eq-Decides}
use Rattle.base_texts.specs.Characters.{is_name_start, is_name_char, is_ncname}
use Rattle.base_texts.specs.Namespaces.{xmlns_space, xml_prefix, xmlns_prefix, xml_space, xsi_space}
use Rattle.base_texts.specs.Limits.{is_empty, has_xml_chars}
use Rattle.base_texts.specs.Entries.{beside}
use Rattle.xml_pieces.specs.Pieces.{IsText}
use Rattle.xml_pieces.proofs.Tools.{or_false, below, implied}
use Rattle.xml_pieces.proofs.Names.{list_all-append}
use Rattle.xml_read.specs.Sound.{is_sound_space}
use Rattle.xml_write.specs.Spaces.{has_space, unseen, numbered, or_none, prefix_for}
use Rattle.xml_write.proofs.Lists.{Each, each_by, each_both}
use Rattle.xml_write.proofs.Texts.{text_of}
use Rattle.xml_write.proofs.Parts.{IsPart}

pub differs : (a b : List ℕ) → (a ≡ b → ⊥) → bytes_eq a b ≡ false
differs a b apart = elim (cases_Bool (bytes_eq a b)) [ inl e ↦ absurd (apart ((bytes_eq-Decides a b).0 e)) | inr e ↦ e ]

pub apart_by : (a b : List ℕ) → bytes_eq a b ≡ false → a ≡ b → ⊥
apart_by a b e same = true≢false (sym ((bytes_eq-Decides a b).1 same) ∙ e)

-- ---- namespaces, each once

module _ (seen : List (List ℕ)) (x : List ℕ) (xs : List (List ℕ)) where
  has_step : (space : List ℕ) (same known : Bool) → bytes_eq space x ≡ same → has_space seen x ≡ known → has_space (x ∷ xs) space ≡ true → has_space seen space ≡ false
      → (has_space xs space ≡ true → has_space (unseen seen xs) space ≡ true)
      → (has_space xs space ≡ true → has_space (x ∷ seen) space ≡ false → has_space (unseen (x ∷ seen) xs) space ≡ true)
      → has_space (unseen seen (x ∷ xs)) space ≡ true
  has_step space true true s k e f old new = absurd (true≢false (sym k ∙ ap (has_space seen) (sym ((bytes_eq-Decides space x).0 s)) ∙ f))
  has_step space true false s k e f old new = rw (k, s) refl
  has_step space false true s k e f old new = rw k (old (rw s at e))
  has_step space false false s k e f old new = rw (k, s) (new (rw s at e) (rw s f))

  each_step : (F : List ℕ → Type 0) (known : Bool) → has_space seen x ≡ known → F x → Each F (unseen seen xs) → Each F (unseen (x ∷ seen) xs) → Each F (unseen seen (x ∷ xs))
  each_step F true k here old new = rw k old
  each_step F false k here old new = rw k (here, new)

pub unseen_has : (seen spaces : List (List ℕ)) (space : List ℕ) → has_space spaces space ≡ true → has_space seen space ≡ false → has_space (unseen seen spaces) space ≡ true
unseen_has seen [] space e f = absurd (true≢false (sym e))
unseen_has seen (x ∷ xs) space e f =
    has_step seen x xs space (bytes_eq space x) (has_space seen x) refl refl e f (λ h. unseen_has seen xs space h f) (unseen_has (x ∷ seen) xs space)

pub each_unseen : (F : List ℕ → Type 0) (seen spaces : List (List ℕ)) → Each F spaces → Each F (unseen seen spaces)
each_unseen F seen [] h = tt
each_unseen F seen (x ∷ xs) h = each_step seen x xs F (has_space seen x) refl h.0 (each_unseen F seen xs h.1) (each_unseen F (x ∷ seen) xs h.1)

abbrev IsNew : List (List ℕ) → List ℕ → Type 0
IsNew seen space = has_space seen space ≡ false

apart_step : (seen : List (List ℕ)) (x : List ℕ) (xs : List (List ℕ)) (known : Bool) → has_space seen x ≡ known → Each (IsNew seen) (unseen seen xs) → Each (IsNew (x ∷ seen)) (unseen (x ∷ seen) xs) → Each (IsNew seen) (cond known (unseen seen xs) (x ∷ unseen (x ∷ seen) xs))
apart_step seen x xs true k old new = old
apart_step seen x xs false k old new = (k, each_by (IsNew (x ∷ seen)) (IsNew seen) (λ y e. (or_false (bytes_eq y x) (has_space seen y) e).1) (unseen (x ∷ seen) xs) new)

pub unseen_new : (seen spaces : List (List ℕ)) → Each (IsNew seen) (unseen seen spaces)
unseen_new seen [] = tt
unseen_new seen (x ∷ xs) = apart_step seen x xs (has_space seen x) refl (unseen_new seen xs) (unseen_new (x ∷ seen) xs)

-- no two are the same
abbrev pub Distinct : List (List ℕ) → Type 0
Distinct [] = Unit {0}
Distinct (x ∷ xs) = Each (λ y. bytes_eq y x ≡ false) xs × Distinct xs

distinct_step : (seen : List (List ℕ)) (x : List ℕ) (xs : List (List ℕ)) (known : Bool) → Distinct (unseen seen xs) → Distinct (unseen (x ∷ seen) xs) → Distinct (cond known (unseen seen xs) (x ∷ unseen (x ∷ seen) xs))
distinct_step seen x xs true old new = old
distinct_step seen x xs false old new = (each_by (IsNew (x ∷ seen)) (λ y. bytes_eq y x ≡ false) (λ y e. (or_false (bytes_eq y x) (has_space seen y) e).0) (unseen (x ∷ seen) xs) (unseen_new (x ∷ seen) xs), new)

pub unseen_distinct : (seen spaces : List (List ℕ)) → Distinct (unseen seen spaces)
unseen_distinct seen [] = tt
unseen_distinct seen (x ∷ xs) = distinct_step seen x xs (has_space seen x) (unseen_distinct seen xs) (unseen_distinct (x ∷ seen) xs)

-- ---- numbered prefixes

-- an entry's prefix: `xsi`, or `n` with a number from low on and below top
abbrev Given : ℕ → ℕ → List ℕ × List ℕ → Type 0
Given low top e =
    (bytes_eq e.0 xsi_space ≡ true) × (e.1 ≡ codes "xsi")
    ⊎ (number : ℕ) × (low ≤ number) × (number < top) × (e.1 ≡ codes "n" ++ decimal number)

weaker : (low top : ℕ) (e : List ℕ × List ℕ) → Given (suc low) top e → Given low top e
weaker low top e (inl g) = inl g
weaker low top e (inr (number, from, below, is)) = inr (number, omega arith, below, is)

given_step : (low top : ℕ) (x : List ℕ) (xs : List (List ℕ)) (xsi : Bool) → bytes_eq x xsi_space ≡ xsi → low < top → Each (Given low top) (numbered low xs) → (suc low + length xs ≤ top → Each (Given (suc low) top) (numbered (suc low) xs))
    → low + length (x ∷ xs) ≤ top → Each (Given low top) (cond xsi ((x, codes "xsi") ∷ numbered low xs) ((x, codes "n" ++ decimal low) ∷ numbered (suc low) xs))
given_step low top x xs true k lt same next le = (inl (k, refl), same)
given_step low top x xs false k lt same next le = (inr (low, omega arith, lt, refl), each_by (Given (suc low) top) (Given low top) (weaker low top) (numbered (suc low) xs) (next (omega arith)))

pub numbered_given : (low top : ℕ) (spaces : List (List ℕ)) → low + length spaces ≤ top → Each (Given low top) (numbered low spaces)
numbered_given low top [] le = tt
numbered_given low top (x ∷ xs) le = given_step low top x xs (bytes_eq x xsi_space) refl (omega arith) (numbered_given low top xs (omega arith)) (numbered_given (suc low) top xs) le

each_number : (F : List ℕ → Type 0) (low : ℕ) (x : List ℕ) (xs : List (List ℕ)) (xsi : Bool) → F x → Each (λ e. F e.0) (numbered low xs) → Each (λ e. F e.0) (numbered (suc low) xs)
    → Each (λ e. F e.0) (cond xsi ((x, codes "xsi") ∷ numbered low xs) ((x, codes "n" ++ decimal low) ∷ numbered (suc low) xs))
each_number F low x xs true here same next = (here, same)
each_number F low x xs false here same next = (here, next)

pub each_numbered : (F : List ℕ → Type 0) (low : ℕ) (spaces : List (List ℕ)) → Each F spaces → Each (λ e. F e.0) (numbered low spaces)
each_numbered F low [] h = tt
each_numbered F low (x ∷ xs) h = each_number F low x xs (bytes_eq x xsi_space) h.0 (each_numbered F low xs h.1) (each_numbered F (suc low) xs h.1)

abbrev pub keys : List (List ℕ × List ℕ) → List (List ℕ)
keys table = map (λ e. e.0) table

keys_step : (low : ℕ) (x : List ℕ) (xs : List (List ℕ)) (xsi : Bool) → keys (numbered low xs) ≡ xs → keys (numbered (suc low) xs) ≡ xs → keys (cond xsi ((x, codes "xsi") ∷ numbered low xs) ((x, codes "n" ++ decimal low) ∷ numbered (suc low) xs)) ≡ x ∷ xs
keys_step low x xs true same next = ap (λ l. x ∷ l) same
keys_step low x xs false same next = ap (λ l. x ∷ l) next

pub numbered_keys : (low : ℕ) (spaces : List (List ℕ)) → keys (numbered low spaces) ≡ spaces
numbered_keys low [] = refl
numbered_keys low (x ∷ xs) = keys_step low x xs (bytes_eq x xsi_space) (numbered_keys low xs) (numbered_keys (suc low) xs)

-- no two entries have one prefix
abbrev pub Apart : List (List ℕ × List ℕ) → Type 0
Apart [] = Unit {0}
Apart (e ∷ es) = Each (λ f. e.1 ≡ f.1 → ⊥) es × Apart es

no_xsi : (number : ℕ) → codes "n" ++ decimal number ≡ codes "xsi" → ⊥
no_xsi number e = let first : 110 ≡ 120 = ap (λ (l : List ℕ). get_or l 0 0) e in absurd (omega (arith, first))

module _ (x : List ℕ) (low top : ℕ) (fits : top < 2 ^ 64) where
  xsi_apart : bytes_eq x xsi_space ≡ true → (f : List ℕ × List ℕ) → Given low top f × (bytes_eq f.0 x ≡ false) → codes "xsi" ≡ f.1 → ⊥
  xsi_apart k f (inl g, other) e = apart_by f.0 x other ((bytes_eq-Decides f.0 xsi_space).0 g.0 ∙ sym ((bytes_eq-Decides x xsi_space).0 k))
  xsi_apart k f (inr (number, from, below, is), other) e = no_xsi number (sym is ∙ sym e)

  number_apart : low < top → (f : List ℕ × List ℕ) → Given (suc low) top f → codes "n" ++ decimal low ≡ f.1 → ⊥
  number_apart lt f (inl g) e = no_xsi low (e ∙ g.1)
  number_apart lt f (inr (number, from, below, is)) e =
      let same : low ≡ number = decimal_injective low number (omega arith) (omega arith) (ap (drop 1) (e ∙ is)) in
      absurd (omega arith)

apart_number : (low top : ℕ) (fits : top < 2 ^ 64) (x : List ℕ) (xs : List (List ℕ)) (xsi : Bool) → bytes_eq x xsi_space ≡ xsi → low + length (x ∷ xs) ≤ top → Each (λ y. bytes_eq y x ≡ false) xs
    → Apart (numbered low xs) → Apart (numbered (suc low) xs) → Apart (cond xsi ((x, codes "xsi") ∷ numbered low xs) ((x, codes "n" ++ decimal low) ∷ numbered (suc low) xs))
apart_number low top fits x xs true k le others same next =
    let both = each_both (Given low top) (λ f. bytes_eq f.0 x ≡ false) (numbered low xs) (numbered_given low top xs (omega arith)) (each_numbered (λ y. bytes_eq y x ≡ false) low xs others) in
    (each_by (λ f. Given low top f × (bytes_eq f.0 x ≡ false)) (λ f. codes "xsi" ≡ f.1 → ⊥) (xsi_apart x low top fits k) (numbered low xs) both, same)
apart_number low top fits x xs false k le others same next =
    (each_by (Given (suc low) top) (λ f. codes "n" ++ decimal low ≡ f.1 → ⊥) (number_apart x low top fits (omega arith)) (numbered (suc low) xs) (numbered_given (suc low) top xs (omega arith)), next)

pub numbered_apart : (low top : ℕ) → top < 2 ^ 64 → (spaces : List (List ℕ)) → low + length spaces ≤ top → Distinct spaces → Apart (numbered low spaces)
numbered_apart low top fits [] le d = tt
numbered_apart low top fits (x ∷ xs) le d =
    apart_number low top fits x xs (bytes_eq x xsi_space) refl le d.0 (numbered_apart low top fits xs (omega arith) d.1) (numbered_later (numbered_apart (suc low) top fits xs) d.1)
  where
    numbered_later : (suc low + length xs ≤ top → Distinct xs → Apart (numbered (suc low) xs)) → Distinct xs → Apart (numbered (suc low) xs)
    numbered_later h e = h (omega arith) e

-- ---- what a prefix is bound to

-- bindings, each a prefix with its namespace
abbrev pub turned : List (List ℕ × List ℕ) → List (List ℕ × List ℕ)
turned table = map (λ e. (e.1, e.0)) table

pub found : (F : List ℕ → Type 0) (table : List (List ℕ × List ℕ)) (space : List ℕ) (rest : List (List ℕ × List ℕ)) → Apart table → Each (λ e. F e.1) table → has_space (keys table) space ≡ true
    → (prefix : List ℕ) × (lookup (bytes_eq space) table ≡ Some prefix) × (beside prefix (turned table ++ rest) ≡ Some space) × F prefix
found F [] space rest apart each has = absurd (true≢false (sym has))
found F (e ∷ es) space rest apart each has = elim (cases_Bool (bytes_eq space e.0)) [
  | inl k ↦ (
      let own : bytes_eq e.1 e.1 ≡ true = (bytes_eq-Decides e.1 e.1).1 refl in
      let same : Some e.0 ≡ Some space = ap (λ (x : List ℕ). Some x) (sym ((bytes_eq-Decides space e.0).0 k)) in
      (e.1, rw k refl, rw own same, each.0))
  | inr k ↦ (
      let r = found (λ q. F q × (e.1 ≡ q → ⊥)) es space rest apart.1 (each_both (λ f. F f.1) (λ f. e.1 ≡ f.1 → ⊥) es each.1 apart.0) (rw k at has) in
      let other : bytes_eq e.1 r.0 ≡ false = differs e.1 r.0 r.3.1 in
      (r.0, rw k r.1, rw other r.2, r.3.0))
]

pub passed_over : (prefix : List ℕ) (table rest : List (List ℕ × List ℕ)) → Each (λ e. bytes_eq e.1 prefix ≡ false) table → beside prefix (turned table ++ rest) ≡ beside prefix rest
passed_over prefix [] rest h = refl
passed_over prefix (e ∷ es) rest h = rw h.0 (passed_over prefix es rest h.1)

-- ---- prefixes

abbrev is_ten : ℕ → Bool
is_ten b = nat_le 48 b && nat_le b 57

ten_digits : (n : ℕ) → n < 2 ^ 64 → list_all is_ten (decimal n) ≡ true
ten_digits n fits = decimal_by_steps (λ n ds. list_all is_ten ds ≡ true) one later n fits
  where
    digit : (d : ℕ) → d < 10 → is_ten (48 + d) ≡ true
    digit d lt = grind (arith, lt)

    one : (n : ℕ) → n < 10 → list_all is_ten ((48 + n) ∷ []) ≡ true
    one n lt = rw (digit n lt) refl

    later : (n : ℕ) (ds : List ℕ) → 10 ≤ n → list_all is_ten ds ≡ true → list_all is_ten (ds ++ (48 + n % 10) ∷ []) ≡ true
    later n ds le h = list_all-append is_ten ds ((48 + n % 10) ∷ []) h (rw (digit (n % 10) (omega arith)) refl)

ten_names : below 58 (λ b. not (is_ten b) || (is_name_char b && not (eqb b 58))) ≡ true
unfolding is_name_char
ten_names = refl

ten_below : (b : ℕ) → is_ten b ≡ true → b < 58
ten_below b e = grind (arith, e)

all_names : (bs : List ℕ) → list_all is_ten bs ≡ true → (list_all is_name_char bs ≡ true) × (list_all (λ c. not (eqb c 58)) bs ≡ true)
all_names [] e = (refl, refl)
all_names (b ∷ bs) e =
    let both = and_parts (is_ten b) (list_all is_ten bs) e in
    let here = and_parts (is_name_char b) (not (eqb b 58)) (implied 58 is_ten (λ b. is_name_char b && not (eqb b 58)) b (ten_below b both.0) ten_names both.0) in
    let more = all_names bs both.1 in
    (rw here.0 more.0, rw here.1 more.1)

module _ (number : ℕ) (fits : number < 2 ^ 64) where
  ascii : IsAscii (decimal number)
  ascii = IsAscii-decimal number fits

  n_utf8 : IsUtf8 (110 ∷ decimal number)
  unfolding is_utf8 chars encode
  n_utf8 = IsUtf8-append (110 ∷ []) (decimal number) (IsUtf8-from_is_utf8 (110 ∷ []) refl) (IsUtf8-from_ascii (decimal number) ascii)

  n_chars : chars (110 ∷ decimal number) ≡ 110 ∷ decimal number
  n_chars = chars_past_char (110 ∷ decimal number) (decimal number) 110 n_utf8 (ap (λ (x : List ℕ). x ++ decimal number) (sym (encode_ascii 110 (omega arith)))) ∙ ap (λ (x : List ℕ). 110 ∷ x) (chars-IsAscii (decimal number) ascii)

  n_ncname : is_ncname (110 ∷ decimal number) ≡ true
  unfolding is_name_start
  n_ncname = let each = all_names (decimal number) (ten_digits number fits) in rw (each.0, each.1) refl

  pub number_part : IsPart (codes "n" ++ decimal number)
  number_part = record {
    utf8 = n_utf8;
    named = ap is_ncname n_chars ∙ n_ncname;
    short = le-leb (length (110 ∷ decimal number)) 255 (omega (arith, length-decimal-le 20 number (omega arith) (omega (arith, fits)) fits));
  }

xsi_part : IsPart (codes "xsi")
unfolding is_utf8 chars encode is_name_start is_name_char
xsi_part = record { utf8 = IsUtf8-from_is_utf8 (codes "xsi") refl; named = refl; short = refl }

xml_part : IsPart (codes "xml")
unfolding is_utf8 chars encode is_name_start is_name_char
xml_part = record { utf8 = IsUtf8-from_is_utf8 (codes "xml") refl; named = refl; short = refl }

-- a prefix that may be declared
pub record IsPrefix (prefix : List ℕ) : Type 0 where
  pub part : IsPart prefix
  pub not_xmlns : bytes_eq prefix xmlns_prefix ≡ false
  pub not_xml : bytes_eq prefix xml_prefix ≡ false
  pub not_default : bytes_eq prefix [] ≡ false

given_prefix : (top : ℕ) → top < 2 ^ 64 → (e : List ℕ × List ℕ) → Given 1 top e → IsPrefix e.1
given_prefix top le e (inl g) = subst IsPrefix (sym g.1) (record { part = xsi_part; not_xmlns = refl; not_xml = refl; not_default = refl })
given_prefix top le e (inr (number, from, below_top, is)) = subst IsPrefix (sym is) (record { part = number_part number (omega arith); not_xmlns = refl; not_xml = refl; not_default = refl })

-- ---- the table of a document

-- the prefix of a namespace within this scope
pub record IsBound (table scope : List (List ℕ × List ℕ)) (space : List ℕ) : Type 0 where
  pub part : IsPart (prefix_for table space)
  pub not_xmlns : bytes_eq (prefix_for table space) xmlns_prefix ≡ false
  pub found : beside (prefix_for table space) scope ≡ Some space

-- an entry that may be declared: a namespace with its prefix
pub record IsDeclared (entry : List ℕ × List ℕ) : Type 0 where
  pub prefix : IsPrefix entry.1
  pub text : IsText entry.0
  pub short : nat_le (length entry.0) 1023 ≡ true
  pub some : is_empty entry.0 ≡ false
  pub not_xmlns : bytes_eq entry.0 xmlns_space ≡ false
  pub not_xml : bytes_eq entry.0 xml_space ≡ false

abbrev IsSpace : List ℕ → Type 0
IsSpace space = is_sound_space space ≡ true

abbrev start_seen : List (List ℕ)
start_seen = [] ∷ xml_space ∷ []

new_parts : (space : List ℕ) → IsNew start_seen space → (is_empty space ≡ false) × (bytes_eq space xml_space ≡ false)
new_parts [] e = absurd (true≢false e)
new_parts (b ∷ bs) e = (refl, (or_false (bytes_eq (b ∷ bs) xml_space) false e).0)

is_new : (space : List ℕ) → is_empty space ≡ false → bytes_eq space xml_space ≡ false → IsNew start_seen space
is_new [] e f = absurd (true≢false e)
is_new (b ∷ bs) e f = rw f refl

module _ (spaces : List (List ℕ)) (few : 1 + length (unseen start_seen spaces) < 2 ^ 64) where
  abbrev pub table : List (List ℕ × List ℕ)
  table = numbered 1 (unseen start_seen spaces)

  abbrev pub scope : List (List ℕ × List ℕ)
  scope = turned table ++ (xml_prefix, xml_space) ∷ []

  abbrev last : ℕ
  last = 1 + length (unseen start_seen spaces)

  prefixes_fine : Each (λ e. IsPrefix e.1) table
  prefixes_fine = each_by (Given 1 last) (λ e. IsPrefix e.1) (given_prefix last few) table (numbered_given 1 last (unseen start_seen spaces) (omega arith))

  pub table_apart : Apart table
  table_apart = numbered_apart 1 last few (unseen start_seen spaces) (omega arith) (unseen_distinct start_seen spaces)

  pub absent : beside [] scope ≡ None
  absent = passed_over [] table ((xml_prefix, xml_space) ∷ []) (each_by (λ e. IsPrefix e.1) (λ e. bytes_eq e.1 [] ≡ false) (λ e p. p.not_default) table prefixes_fine)

  xml_found : beside xml_prefix scope ≡ Some xml_space
  xml_found = passed_over xml_prefix table ((xml_prefix, xml_space) ∷ []) (each_by (λ e. IsPrefix e.1) (λ e. bytes_eq e.1 xml_prefix ≡ false) (λ e p. p.not_xml) table prefixes_fine)

  xml_bound : (space : List ℕ) → bytes_eq space xml_space ≡ true → IsBound table scope space
  xml_bound space k =
      let is : prefix_for table space ≡ xml_prefix = rw k refl in
      record {
        part = subst IsPart (sym is) xml_part;
        not_xmlns = ap (λ (x : List ℕ). bytes_eq x xmlns_prefix) is;
        found = ap (λ (x : List ℕ). beside x scope) is ∙ xml_found ∙ ap (λ (x : List ℕ). Some x) (sym ((bytes_eq-Decides space xml_space).0 k));
      }

  other_bound : (space : List ℕ) → bytes_eq space xml_space ≡ false → has_space spaces space ≡ true → is_empty space ≡ false → IsBound table scope space
  other_bound space k has some =
      let listed : has_space (unseen start_seen spaces) space ≡ true = unseen_has start_seen spaces space has (is_new space some k) in
      let keyed : has_space (keys table) space ≡ true = ap (λ (l : List (List ℕ)). has_space l space) (numbered_keys 1 (unseen start_seen spaces)) ∙ listed in
      let r = found IsPrefix table space ((xml_prefix, xml_space) ∷ []) table_apart prefixes_fine keyed in
      let is : prefix_for table space ≡ r.0 = ap (λ (b : Bool). cond b (codes "xml") (or_none (lookup (bytes_eq space) table))) k ∙ ap or_none r.1 in
      record {
        part = subst IsPart (sym is) r.3.part;
        not_xmlns = ap (λ (x : List ℕ). bytes_eq x xmlns_prefix) is ∙ r.3.not_xmlns;
        found = ap (λ (x : List ℕ). beside x scope) is ∙ r.2;
      }

  pub all_bound : (space : List ℕ) → has_space spaces space ≡ true → is_empty space ≡ false → IsBound table scope space
  all_bound space has some = elim (cases_Bool (bytes_eq space xml_space)) [ inl k ↦ xml_bound space k | inr k ↦ other_bound space k has some ]

  declare : (e : List ℕ × List ℕ) → IsPrefix e.1 → IsSpace e.0 → IsNew start_seen e.0 → IsDeclared e
  declare e prefix fine new =
      let one = and_parts (has_xml_chars e.0 && nat_le (length e.0) 1023) (not (bytes_eq e.0 xmlns_space)) fine in
      let two = and_parts (has_xml_chars e.0) (nat_le (length e.0) 1023) one.0 in
      let parts = new_parts e.0 new in
      record { prefix = prefix; text = text_of e.0 two.0; short = two.1; some = parts.0; not_xmlns = not-true (bytes_eq e.0 xmlns_space) one.1; not_xml = parts.1 }

  pub all_declared : Each IsSpace spaces → Each IsDeclared table
  all_declared fine =
      let names = unseen start_seen spaces in
      let fines = each_numbered IsSpace 1 names (each_unseen IsSpace start_seen spaces fine) in
      let news = each_numbered (IsNew start_seen) 1 names (unseen_new start_seen spaces) in
      let both = each_both (λ e. IsSpace e.0) (λ e. IsNew start_seen e.0) table fines news in
      let all = each_both (λ e. IsPrefix e.1) (λ e. IsSpace e.0 × IsNew start_seen e.0) table prefixes_fine both in
      each_by (λ e. IsPrefix e.1 × (IsSpace e.0 × IsNew start_seen e.0)) IsDeclared (λ e h. declare e h.0 h.1.0 h.1.1) table all
