-- Names that are kept apart.
use Rattle.std.proofs.Common.{◌≡◌, ℕ, zero, suc, ◌+◌, ◌-◌, ◌<◌, ◌≤◌, Bool, true, false, not, IsTrue, ◌↔◌, List, [], ◌∷◌, ◌++◌, length, get_or, refl, sym, ap, ◌∙◌, subst, arith, inl, inr, ◌⊎◌, cond, Option, Some, None}
use Rattle.std.specs.Prelude.{bytes_eq, decimal, slice_index_or, ◌||◌, ◌&&◌, ◌^◌, ◌==◌, nat_lt, unwrap_or}
use Rattle.std.specs.Char.{digit_value}
use Rattle.std.proofs.lemmas.Fmt.{decimal_is_IsNumeral}
use Rattle.std.proofs.lemmas.List.Elements.{Contains-append_left}
use Rattle.std.proofs.lemmas.List.{length-append, get_or-append_right}
use Rattle.std.proofs.lemmas.Bool.Decides.{nat_tests}
use Rattle.std.proofs.lemmas.Bool.{true≢false, cases_lt}
use Rattle.std.specs.Str.Parse.{AllDigits}
use Rattle.std.specs.List.{Contains, list_any, list_all, slice_split}
use Rattle.std.specs.Prelude.{if◌then◌else◌, Result, Ok, Err, IfOk}
use Rattle.indexmap.specs.IndexSet.{insert_key}
use Rattle.std.proofs.lemmas.Slice.Eq.{bytes_eq-Decides}
use Rattle.std.proofs.lemmas.Map.Views.{Contains-from_any}
use Rattle.asn_names.specs.declared.conversion.NameKind.{NameKind}
use Rattle.asn_names.specs.declared.conversion.NameKind.TheVariants.{Reference, Identifier}
use Rattle.asn_names.specs.ReservedWords.{reserved_text, reserved_words}
use Rattle.asn_names.specs.Taking.{IsAllowed, IsFree, IsTaken, IsLeastSuffix, AreTakenBelow, suffixed}

bytes_same : (xs ys : List ℕ) → bytes_eq xs ys ≡ true → xs ≡ ys
bytes_same xs ys e = (bytes_eq-Decides xs ys).0 e

or_true : (b : Bool) → (b || true) ≡ true
or_true true = refl
or_true false = refl

-- a look-up finds just the names of the list
pub has-Contains : (name : List ℕ) (names : List (List ℕ)) → list_any (bytes_eq name) names ≡ true → Contains names name
has-Contains name names e = Contains-from_any bytes_same name names e

has_at : (name : List ℕ) (names : List (List ℕ)) (k : ℕ) → k < length names → slice_index_or names k name ≡ name → list_any (bytes_eq name) names ≡ true
has_at name [] k below e = absurd (omega arith)
has_at name (x ∷ names) zero below e = ap (λ b. b || list_any (bytes_eq name) names) ((bytes_eq-Decides name x).1 (sym e))
has_at name (x ∷ names) (suc k) below e = ap (λ b. bytes_eq name x || b) (has_at name names k (omega arith) e) ∙ or_true (bytes_eq name x)

pub Contains-has : (name : List ℕ) (names : List (List ℕ)) → Contains names name → list_any (bytes_eq name) names ≡ true
Contains-has name names h = has_at name names h.0 h.1 h.2

pub lacks-Contains : (name : List ℕ) (names : List (List ℕ)) → list_any (bytes_eq name) names ≡ false → ¬ Contains names name
lacks-Contains name names e h = true≢false (sym (Contains-has name names h) ∙ e)

same_truth : (a b : Bool) → (a ≡ true → b ≡ true) → (b ≡ true → a ≡ true) → a ≡ b
same_truth true b f g = sym (f refl)
same_truth false true f g = g refl
same_truth false false f g = refl

-- a test for reserved words is a look-up among them
pub reserved-has : (name : List ℕ) (b : Bool) → (IsTrue b ↔ Contains reserved_words name) → b ≡ list_any (bytes_eq name) reserved_words
reserved-has name b h =
    same_truth b (list_any (bytes_eq name) reserved_words)
    (λ e. Contains-has name reserved_words (h.0 e))
    (λ e. h.1 (has-Contains name reserved_words e))

-- no reserved word ends in a digit
abbrev last : List ℕ → ℕ
last bs = get_or bs (length bs - 1) 0

all_end_high : list_all (λ word. nat_lt 57 (last word)) reserved_words ≡ true
unfolding reserved_words
all_end_high = refl

and_first : (a b : Bool) → (a && b) ≡ true → a ≡ true
and_first true b e = refl
and_first false b e = cc

and_second : (a b : Bool) → (a && b) ≡ true → b ≡ true
and_second true b e = e
and_second false b e = cc

high : (n : ℕ) → nat_lt 57 n ≡ true → 57 < n
high n e = grind (arith, nat_tests)

ends_high : (words : List (List ℕ)) (word : List ℕ) (k : ℕ) → list_all (λ word. nat_lt 57 (last word)) words ≡ true → k < length words → slice_index_or words k word ≡ word → 57 < last word
ends_high [] word k all below e = absurd (omega arith)
ends_high (x ∷ words) word zero all below e = subst (λ w. 57 < last w) e (high (last x) (and_first _ _ all))
ends_high (x ∷ words) word (suc k) all below e = ends_high words word k (and_second _ _ all) (omega arith) e

last-suffix : (name digits : List ℕ) → 0 < length digits → last (name ++ 0x2D ∷ digits) ≡ last digits
last-suffix name [] some = absurd (omega arith)
last-suffix name (d ∷ digits) some =
    let e : length (name ++ 0x2D ∷ d ∷ digits) - 1 ≡ length name + suc (length digits) = omega (arith, length-append name (0x2D ∷ d ∷ digits)) in
    let g : length name + suc (length digits) - length name ≡ suc (length digits) = omega arith in
    let f : length (d ∷ digits) - 1 ≡ length digits = omega arith in
    ap (λ i. get_or (name ++ 0x2D ∷ d ∷ digits) i 0) e ∙ get_or-append_right name (0x2D ∷ d ∷ digits) (length name) (length name + suc (length digits)) 0 refl (omega arith) ∙ ap (λ i. get_or (0x2D ∷ d ∷ digits) i 0) g ∙ ap (λ i. get_or (d ∷ digits) i 0) (sym f)

digit_low : (c : ℕ) → digit_value c < 10 → c < 58
digit_low c h = grind (arith, nat_tests)

digit_at_end : (d : ℕ) (ds : List ℕ) → AllDigits 10 (d ∷ ds) → get_or (d ∷ ds) (length ds) 0 < 58
digit_at_end d [] h = digit_low d h.0
digit_at_end d (e ∷ ds) h = digit_at_end e ds h.1

last_digit : (ds : List ℕ) → 0 < length ds → AllDigits 10 ds → last ds < 58
last_digit [] some h = absurd (omega arith)
last_digit (d ∷ ds) some h = let e : length (d ∷ ds) - 1 ≡ length ds = omega arith in subst (λ i. get_or (d ∷ ds) i 0 < 58) (sym e) (digit_at_end d ds h)

pub never_reserved : (name : List ℕ) (n : ℕ) → n < 2 ^ 64 → ¬ Contains reserved_words (suffixed name n)
never_reserved name n small h =
    let b = (decimal_is_IsNumeral n small).0 in
    let top = ends_high reserved_words (suffixed name n) h.0 all_end_high h.1 h.2 in
    let low = last_digit (decimal n) b.0 b.1 in
    absurd (omega (arith, top, low, last-suffix name (decimal n) b.0))

pub split_reserved : slice_split (λ b. b == 0x20) reserved_text ≡ reserved_words
unfolding reserved_words
split_reserved = refl

-- none of the names below was free
pub least_of : (kind : NameKind) (before : List (List ℕ)) (name : List ℕ) (n : ℕ) → 0 < n → n < 2 ^ 64 → ¬ Contains before (suffixed name n) → AreTakenBelow before name n
    → IsLeastSuffix kind before name n
least_of kind before name n some small free below = record {
  positive = some;
  free = (free, allowed kind);
  least = λ k positive less is_free. is_free.0 (below k positive less);
}
  where
    allowed : (kind : NameKind) → IsAllowed kind (suffixed name n)
    allowed Reference = never_reserved name n small
    allowed Identifier = tt

-- what is taken stays taken behind more names
pub taken_further : (before after : List (List ℕ)) (name : List ℕ) (n : ℕ) → AreTakenBelow before name n → AreTakenBelow (before ++ after) name n
taken_further before after name n below k some less = Contains-append_left before after (suffixed name k) (below k some less)

-- what a table of suffixes says of the names
abbrev pub Tried : List (List ℕ) → (List ℕ → Option ℕ) → Type 0
Tried names look = (name : List ℕ) (n : ℕ) → look name ≡ Some n → (0 < n) × AreTakenBelow names name n

pub tried_further : (before after : List (List ℕ)) (look : List ℕ → Option ℕ) → Tried before look → Tried (before ++ after) look
tried_further before after look tried name n is = let t = tried name n is in (t.0, taken_further before after name n t.1)

noted_at : (names : List (List ℕ)) (look : List ℕ → Option ℕ) (key name : List ℕ) (m n : ℕ) (b : Bool) → bytes_eq key name ≡ b → 0 < m → AreTakenBelow names key m
    → cond b (Some m) (look name) ≡ Some n → Tried names look → (0 < n) × AreTakenBelow names name n
noted_at names look key name m n true e some below is tried =
    let same : key ≡ name = bytes_same key name e in
    let number : m ≡ n = cc in
    (subst (λ k. 0 < k) number some, subst (λ k. AreTakenBelow names name k) number (subst (λ w. AreTakenBelow names w m) same below))
noted_at names look key name m n false e some below is tried = tried name n is

pub tried_noted : (names : List (List ℕ)) (look new : List ℕ → Option ℕ) (key : List ℕ) (m : ℕ) → 0 < m → AreTakenBelow names key m
    → ((q : List ℕ) → new q ≡ cond (bytes_eq key q) (Some m) (look q)) → Tried names look → Tried names new
tried_noted names look new key m some below is tried name n e = noted_at names look key name m n (bytes_eq key name) refl some below (sym (is name) ∙ e) tried

-- where to begin
begin_at : (names : List (List ℕ)) (look : List ℕ → Option ℕ) (name : List ℕ) (r : Option ℕ) → look name ≡ r → Tried names look → (0 < unwrap_or r 1) × AreTakenBelow names name (unwrap_or r 1)
begin_at names look name None e tried = (omega arith, λ k some less. absurd (omega arith))
begin_at names look name (Some n) e tried = tried name n e

pub begin_from : (names : List (List ℕ)) (look : List ℕ → Option ℕ) (name : List ℕ) (from : ℕ) → from ≡ unwrap_or (look name) 1 → Tried names look → (0 < from) × AreTakenBelow names name from
begin_from names look name from is tried =
    let b = begin_at names look name (look name) refl tried in
    (subst (λ k. 0 < k) (sym is) b.0, subst (λ k. AreTakenBelow names name k) (sym is) b.1)

-- whether a name is free
pub free_reference : (names : List (List ℕ)) (name : List ℕ) (r : Bool) → list_any (bytes_eq name) names ≡ false → (IsTrue r ↔ Contains reserved_words name) → IsTrue (not r) ↔ IsFree Reference names name
free_reference names name true lacks is = (λ t. absurd (true≢false (sym t)), λ f. absurd (f.1 (is.0 refl)))
free_reference names name false lacks is = (λ _. (lacks-Contains name names lacks, λ h. true≢false (sym (is.1 h))), λ _. refl)

pub taken_by : (kind : NameKind) (names : List (List ℕ)) (name : List ℕ) → list_any (bytes_eq name) names ≡ true → ¬ IsFree kind names name
taken_by kind names name has f = f.0 (has-Contains name names has)

pub one_more_taken : (names : List (List ℕ)) (name : List ℕ) (n : ℕ) → AreTakenBelow names name n → Contains names (suffixed name n) → AreTakenBelow names name (n + 1)
one_more_taken names name n so_far here k some less = by (cases_lt k n)
  where
    by : (k < n) ⊎ (n ≤ k) → Contains names (suffixed name k)
    by (inl under) = so_far k some under
    by (inr above) = let e : n ≡ k = omega arith in subst (λ m. Contains names (suffixed name m)) e here

-- no name is given twice
pub taken_fresh : (kind : NameKind) (before : List (List ℕ)) (name given : List ℕ) → IsTaken kind before name given → ¬ Contains before given
taken_fresh kind before name given (inl itself) = subst (λ w. ¬ Contains before w) (sym itself.1) itself.0.0
taken_fresh kind before name given (inr further) = subst (λ w. ¬ Contains before w) (sym further.3) further.2.free.0

lacks_by : (b : Bool) (name : List ℕ) (names : List (List ℕ)) → list_any (bytes_eq name) names ≡ b → ¬ Contains names name → list_any (bytes_eq name) names ≡ false
lacks_by true name names e lacks = absurd (lacks (has-Contains name names e))
lacks_by false name names e lacks = e

pub insert_fresh : (names : List (List ℕ)) (name key : List ℕ) → key ≡ name → ¬ Contains names name → insert_key bytes_eq names key ≡ names ++ name ∷ []
insert_fresh names name key same lacks =
    let e : list_any (bytes_eq name) names ≡ false = lacks_by (list_any (bytes_eq name) names) name names refl lacks in
    ap (insert_key bytes_eq names) same ∙ ap (λ b. if b then names else names ++ name ∷ []) e

pub given_further : {E : Type 0} (kind : NameKind) (before : List (List ℕ)) (name : List ℕ) (r : Result (List ℕ) E) → ¬ IsFree kind before name
    → IfOk r (λ text. (n : ℕ) × ((kind : NameKind) → IsLeastSuffix kind before name n) × (text ≡ suffixed name n)) → IfOk r (λ text. IsTaken kind before name text)
given_further kind before name (Ok text) taken h = inr (taken, h.0, h.1 kind, h.2)
given_further kind before name (Err e) taken h = tt
