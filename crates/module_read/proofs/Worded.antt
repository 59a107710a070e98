-- Words that are told have UTF-8.
use Rattle.std.proofs.Common.{◌≡◌, ℕ, zero, suc, ◌<◌, Bool, true, false, ◌&&◌, Option, Some, None, List, [], ◌∷◌, length, refl, sym, ap, subst, ◌∙◌, arith}
use Rattle.std.specs.Prelude.{bytes_eq, IsUtf8, All, if◌then◌else◌}
use Rattle.std.specs.List.{list_all, filter_map}
use Rattle.std.specs.Str.{is_utf8}
use Rattle.std.proofs.lemmas.Str.{is_utf8-from_IsUtf8}
use Rattle.std.proofs.lemmas.Slice.Eq.{bytes_eq-Decides}
use Rattle.module_text.specs.declared.marks.NameAs.{NameAs}
use Rattle.module_text.specs.declared.marks.TypeMark.{TypeMark}
use Rattle.module_text.specs.declared.marks.TypeMarkKind.{TypeMarkKind}
use Rattle.module_text.specs.declared.marks.TypeMarkKind.TheVariants as type_mark
use Rattle.module_text.specs.declared.types.PlainName.{PlainName}
use Rattle.module_text.specs.Told.{Said, said, told_name, words_said, words_of}

-- the texts that TEXT says
abbrev pub AreSaid : List Said → Type 0
AreSaid [] = Unit {0}
AreSaid (t ∷ ts) = IsUtf8 (told_name t.identifier t.text) × AreSaid ts

abbrev pub AreNamed : List PlainName → Type 0
AreNamed [] = Unit {0}
AreNamed (i ∷ is) = IsUtf8 i.name × AreNamed is

all_first : (word : List ℕ) (words : List (List ℕ)) → IsUtf8 word → list_all is_utf8 words ≡ true → list_all is_utf8 (word ∷ words) ≡ true
all_first word words u e = ap (λ b. b && list_all is_utf8 words) (is_utf8-from_IsUtf8 word u) ∙ e

word_utf8 : (t : Said) (others : List Said) (i : PlainName) (is : List PlainName) (same : Bool)
    → bytes_eq t.identifier i.name ≡ same → IsUtf8 (told_name t.identifier t.text) → IsUtf8 i.name
    → list_all is_utf8 (words_said others is) ≡ true → list_all is_utf8 (words_said (t ∷ others) is) ≡ true
    → list_all is_utf8 (if same then told_name i.name t.text ∷ words_said others is else i.name ∷ words_said (t ∷ others) is) ≡ true
word_utf8 t others i is true e told named behind alone =
    let is_it : t.identifier ≡ i.name = (bytes_eq-Decides t.identifier i.name).0 e in
    all_first (told_name i.name t.text) (words_said others is) (subst (λ name. IsUtf8 (told_name name t.text)) is_it told) behind
word_utf8 t others i is false e told named behind alone = all_first i.name (words_said (t ∷ others) is) named alone

pub words_utf8 : (is : List PlainName) (texts : List Said) → AreSaid texts → AreNamed is → list_all is_utf8 (words_said texts is) ≡ true
words_utf8 [] texts told named = refl
words_utf8 (i ∷ is) [] told named = all_first i.name (words_said [] is) named.0 (words_utf8 is [] tt named.1)
words_utf8 (i ∷ is) (t ∷ others) told named =
    word_utf8 t others i is (bytes_eq t.identifier i.name) refl told.0 named.0 (words_utf8 is others told.1 named.1) (words_utf8 is (t ∷ others) told named.1)

-- as many as items
count_at : (t : Said) (others : List Said) (i : PlainName) (is : List PlainName) (same : Bool)
    → length (words_said others is) ≡ length is → length (words_said (t ∷ others) is) ≡ length is
    → length (if same then told_name i.name t.text ∷ words_said others is else i.name ∷ words_said (t ∷ others) is) ≡ suc (length is)
count_at t others i is true behind alone = ap suc behind
count_at t others i is false behind alone = ap suc alone

pub words_count : (is : List PlainName) (texts : List Said) → length (words_said texts is) ≡ length is
words_count [] texts = refl
words_count (i ∷ is) [] = ap suc (words_count is [])
words_count (i ∷ is) (t ∷ others) = count_at t others i is (bytes_eq t.identifier i.name) (words_count is others) (words_count is (t ∷ others))
