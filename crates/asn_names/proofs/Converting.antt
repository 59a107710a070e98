-- A conversion character by character.
use Rattle.std.proofs.Common.{◌≡◌, ℕ, ◌<◌, Bool, true, false, List, [], ◌∷◌, ◌++◌, length, refl, sym, ap, ◌∙◌, arith, append_assoc, Some, None, ◌==◌}
use Rattle.std.specs.Prelude.{filter, if◌then◌else◌}
use Rattle.std.specs.Char.{is_ascii_digit}
use Rattle.std.specs.List.{slice_split, onto_first, join_with_byte, filter_map}
use Rattle.std.proofs.lemmas.List.{append-nil}
use Rattle.std.proofs.lemmas.Grind.{common_steps}
use Rattle.std.proofs.lemmas.Bool.Decides.{nat_tests}
use Rattle.base_texts.specs.WhiteSpace.{has_bytes}
use Rattle.std.proofs.lemmas.Str.{encode_ascii}
use lib.Utf8.{encode}
use Rattle.asn_names.specs.declared.conversion.NameKind.{NameKind}
use Rattle.asn_names.specs.declared.conversion.NameKind.TheVariants.{Reference, Identifier}
use Rattle.asn_names.specs.Conversion.{kept, letter_x, cased, begun, converted}

-- what is kept is ASCII
pub kept-ascii : (c d : ℕ) → kept c ≡ Some d → d < 128
unfolding kept
kept-ascii c d is = grind (arith, common_steps)

-- each part behind a hyphen
spaced : List (List ℕ) → List ℕ
spaced [] = []
spaced (part ∷ parts) = (0x2D ∷ part) ++ spaced parts

join-cons : (part : List ℕ) (parts : List (List ℕ)) → join_with_byte 0x2D (part ∷ parts) ≡ part ++ spaced parts
unfolding spaced
join-cons part [] = sym (append-nil part)
join-cons part (next ∷ parts) = ap (λ l. part ++ (0x2D ∷ l)) (join-cons next parts)

-- what characters give behind others: a hyphen is due before the next letter where one was passed
abbrev pub further : Bool → List ℕ → List ℕ
further is_apart [] = []
further is_apart (c ∷ cs) = if c == 0x2D then further true cs else if is_apart then 0x2D ∷ c ∷ further false cs else c ∷ further false cs

is_hyphen : ℕ → Bool
is_hyphen c = c == 0x2D

-- the first part, and those behind it
record Parts (cs : List ℕ) : Type 0 where
  first : List ℕ
  rest : List (List ℕ)
  parts : slice_split (λ c. c == 0x2D) cs ≡ first ∷ rest
  near : first ++ spaced (filter has_bytes rest) ≡ further false cs
  far : spaced (filter has_bytes (first ∷ rest)) ≡ further true cs

parts-cons : (c : ℕ) (cs : List ℕ) (w : Bool) → (c == 0x2D) ≡ w → Parts cs → Parts (c ∷ cs)
unfolding spaced
parts-cons c cs true e p = record {
  first = [];
  rest = p.first ∷ p.rest;
  parts = rw e (ap (λ l. [] ∷ l) p.parts);
  near = rw e p.far;
  far = rw e p.far;
}
parts-cons c cs false e p = record {
  first = c ∷ p.first;
  rest = p.rest;
  parts = rw e (ap (onto_first c) p.parts);
  near = rw e (ap (λ l. c ∷ l) p.near);
  far = rw e (ap (λ l. 0x2D ∷ c ∷ l) p.near);
}

parts_of : (cs : List ℕ) → Parts cs
unfolding spaced
parts_of [] = record { first = []; rest = []; parts = refl; near = refl; far = refl }
parts_of (c ∷ cs) = parts-cons c cs (c == 0x2D) refl (parts_of cs)

joined_kept : List ℕ → List ℕ
joined_kept cs = join_with_byte 0x2D (filter has_bytes (slice_split (λ c. c == 0x2D) cs))

-- a name begins with its first letter or digit
joined-first : (c : ℕ) (cs : List ℕ) → (c == 0x2D) ≡ false → joined_kept (c ∷ cs) ≡ c ∷ further false cs
unfolding joined_kept
joined-first c cs e =
    let p = parts_of cs in
    let split : slice_split (λ c. c == 0x2D) (c ∷ cs) ≡ (c ∷ p.first) ∷ p.rest = rw e (ap (onto_first c) p.parts) in
    ap (λ l. join_with_byte 0x2D (filter has_bytes l)) split ∙ join-cons (c ∷ p.first) (filter has_bytes p.rest) ∙ ap (λ l. c ∷ l) p.near

-- the converted name, where so much of it is made and these characters are to come
abbrev pub ends : NameKind → List ℕ → Bool → List ℕ → List ℕ
ends kind [] is_apart cs = converted kind cs
ends kind (b ∷ bs) is_apart cs = (b ∷ bs) ++ further is_apart (filter_map kept cs)

pub ends-none : (kind : NameKind) (made : List ℕ) (is_apart : Bool) (c : ℕ) (cs : List ℕ) → kept c ≡ None → ends kind made is_apart (c ∷ cs) ≡ ends kind made is_apart cs
unfolding converted
ends-none kind [] is_apart c cs e = rw e refl
ends-none kind (b ∷ bs) is_apart c cs e = rw e refl

pub ends-hyphen : (kind : NameKind) (made : List ℕ) (is_apart : Bool) (c : ℕ) (cs : List ℕ) → kept c ≡ Some 0x2D → ends kind made is_apart (c ∷ cs) ≡ ends kind made true cs
unfolding converted
ends-hyphen kind [] is_apart c cs e = rw e refl
ends-hyphen kind (b ∷ bs) is_apart c cs e = rw e refl

begun-first : (kind : NameKind) (d : ℕ) (cs : List ℕ) (w : Bool) → is_ascii_digit d ≡ w
    → begun kind (d ∷ further false (filter_map kept cs)) ≡ ends kind (if is_ascii_digit d then letter_x kind ∷ d ∷ [] else cased kind d ∷ []) false cs
begun-first kind d cs true e = rw e refl
begun-first kind d cs false e = rw e refl

-- the first letter or digit of a name
pub ends-first : (kind : NameKind) (made out : List ℕ) (is_apart : Bool) (c d : ℕ) (cs : List ℕ) → length made ≡ 0 → kept c ≡ Some d → (d == 0x2D) ≡ false
    → out ≡ made ++ (if is_ascii_digit d then letter_x kind ∷ d ∷ [] else cased kind d ∷ []) → ends kind made is_apart (c ∷ cs) ≡ ends kind out false cs
unfolding converted joined_kept
ends-first kind [] out is_apart c d cs none e other is =
    let k : filter_map kept (c ∷ cs) ≡ d ∷ filter_map kept cs = rw e refl in
    ap (λ l. begun kind (joined_kept l)) k ∙ ap (begun kind) (joined-first d (filter_map kept cs) other) ∙ begun-first kind d cs (is_ascii_digit d) refl ∙ ap (λ o. ends kind o false cs) (sym is)
ends-first kind (b ∷ bs) out is_apart c d cs none e other is = absurd (omega arith)

further-cons : (is_apart : Bool) (d : ℕ) (ks : List ℕ) → (d == 0x2D) ≡ false → further is_apart (d ∷ ks) ≡ (if is_apart then 0x2D ∷ d ∷ [] else d ∷ []) ++ further false ks
further-cons true d ks other = rw other refl
further-cons false d ks other = rw other refl

-- and a further one
pub ends-further : (kind : NameKind) (made out : List ℕ) (is_apart : Bool) (c d : ℕ) (cs : List ℕ) → 0 < length made → kept c ≡ Some d → (d == 0x2D) ≡ false
    → out ≡ made ++ (if is_apart then 0x2D ∷ d ∷ [] else d ∷ []) → ends kind made is_apart (c ∷ cs) ≡ ends kind out false cs
ends-further kind [] out is_apart c d cs some e other is = absurd (omega arith)
ends-further kind (b ∷ bs) out is_apart c d cs some e other is =
    let k : filter_map kept (c ∷ cs) ≡ d ∷ filter_map kept cs = rw e refl in
    let part = if is_apart then 0x2D ∷ d ∷ [] else d ∷ [] in
    ap (λ l. (b ∷ bs) ++ further is_apart l) k ∙ ap (λ l. (b ∷ bs) ++ l) (further-cons is_apart d (filter_map kept cs) other)
    ∙ sym (append_assoc (b ∷ bs) part (further false (filter_map kept cs))) ∙ ap (λ o. ends kind o false cs) (sym is)

-- no character is to come
pub ends-done : (kind : NameKind) (made : List ℕ) (is_apart : Bool) → 0 < length made → ends kind made is_apart [] ≡ made
ends-done kind [] is_apart some = absurd (omega arith)
ends-done kind (b ∷ bs) is_apart some = append-nil (b ∷ bs)

pub ends-empty : (kind : NameKind) (made : List ℕ) (is_apart : Bool) → length made ≡ 0 → ends kind made is_apart [] ≡ letter_x kind ∷ []
unfolding converted
ends-empty kind [] is_apart none = refl
ends-empty kind (b ∷ bs) is_apart none = absurd (omega arith)

-- one character more
pub one_more : (kind : NameKind) (yielded : List ℕ) (c : ℕ) (cs made out : List ℕ) (is_apart now : Bool)
    → ((ds : List ℕ) → converted kind (yielded ++ ds) ≡ ends kind made is_apart ds) → ends kind made is_apart (c ∷ cs) ≡ ends kind out now cs
    → converted kind ((yielded ++ c ∷ []) ++ cs) ≡ ends kind out now cs
one_more kind yielded c cs made out is_apart now so_far step = ap (converted kind) (append_assoc yielded (c ∷ []) cs) ∙ so_far (c ∷ cs) ∙ step

pub no_hyphen : (d : ℕ) → (d ≡ 0x2D → ⊥) → (d == 0x2D) ≡ false
no_hyphen d other = grind (arith, nat_tests)

-- a letter or digit behind a hyphen that is due
pub pushed_apart : (is_apart : Bool) (made mid out : List ℕ) (d : ℕ) → is_apart ≡ true → mid ≡ made ++ 0x2D ∷ [] → out ≡ mid ++ d ∷ [] → out ≡ made ++ (if is_apart then 0x2D ∷ d ∷ [] else d ∷ [])
pushed_apart is_apart made mid out d e m o = rw e (o ∙ ap (λ l. l ++ d ∷ []) m ∙ append_assoc made (0x2D ∷ []) (d ∷ []))

pub pushed : (is_apart : Bool) (made mid out : List ℕ) (d : ℕ) → is_apart ≡ false → mid ≡ made → out ≡ mid ++ d ∷ [] → out ≡ made ++ (if is_apart then 0x2D ∷ d ∷ [] else d ∷ [])
pushed is_apart made mid out d e m o = rw e (o ∙ ap (λ l. l ++ d ∷ []) m)

letter_x-ascii : (kind : NameKind) → letter_x kind < 128
letter_x-ascii Reference = omega arith
letter_x-ascii Identifier = omega arith

-- nothing was kept
pub only_x : (kind : NameKind) (made out : List ℕ) (is_apart : Bool) (x : ℕ) → length made ≡ 0 → x ≡ letter_x kind → out ≡ made ++ encode x → out ≡ ends kind made is_apart []
only_x kind [] out is_apart x none is o = o ∙ ap encode is ∙ encode_ascii (letter_x kind) (letter_x-ascii kind) ∙ sym (ends-empty kind [] is_apart none)
only_x kind (b ∷ bs) out is_apart x none is o = absurd (omega arith)
