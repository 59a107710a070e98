-- Exactly one reason holds, and it is the one that is read.
use Rattle.std.proofs.Common.{◌≡◌, ℕ, Bool, true, false, cond, List, [], ◌∷◌, ◌++◌, Option, Some, None, refl, sym, ap, subst, ◌∙◌, inl, inr}
use Rattle.std.specs.Prelude.{◌⊎◌, IsUtf8}
use Rattle.xml_pieces.specs.declared.reason.NoneWhy.{NoneWhy}
use Rattle.xml_pieces.specs.declared.reason.NoneWhy.TheVariants as why
use Rattle.xml_pieces.specs.Pieces.{Tag, Piece, Start, Empty, Loose, behind, is_version, is_encoding, IsTag, IsDoctype, WouldBeDeclaration, WouldBeTag}
use Rattle.xml_pieces.specs.Reading.{◌>>=◌, ahead, declared_at, tag_at}
use Rattle.xml_pieces.specs.Reasons.{IsBadVersion, IsBadEncoding, IsBadReference, NoneReason, declared_in, loose_tag_in, reference_why, declared_why, why_at}
use Rattle.xml_pieces.proofs.Strips.{behind_again, behind_takes}
use Rattle.xml_pieces.proofs.Tools.{bind_some, some_is, never}
use Rattle.xml_pieces.proofs.Utf8.{behind_utf8}
use Rattle.xml_pieces.proofs.TagLaws.{tag_takes, start_again, empty_again}
use Rattle.xml_pieces.proofs.DeclarationLaws.{declared_takes, declared_again}

abbrev doctype : List ℕ
doctype = 60 ∷ 33 ∷ 68 ∷ 79 ∷ 67 ∷ 84 ∷ 89 ∷ 80 ∷ 69 ∷ []

abbrev opening : List ℕ
opening = 60 ∷ 63 ∷ 120 ∷ 109 ∷ 108 ∷ []

no_doctype : (bytes : List ℕ) → behind doctype bytes ≡ None → IsDoctype bytes → ⊥
no_doctype bytes none d = never d.0 (sym none ∙ ap (behind doctype) d.1 ∙ behind_again doctype d.0)

abbrev Declared : Type 0
Declared = List ℕ × Option (List ℕ) × List ℕ

-- a declaration that would begin is the one that is read
would_reads : (bytes version : List ℕ) (encoding : Option (List ℕ)) → WouldBeDeclaration bytes version encoding → (rest : List ℕ) × (declared_in bytes ≡ Some (version, encoding, rest))
would_reads bytes version encoding w =
    let at : behind opening bytes ≡ Some (w.0 ++ w.1) = ap (behind opening) w.3 ∙ behind_again opening (w.0 ++ w.1) in
    (w.1, ap (λ (o : Option (List ℕ)). o >>= declared_at) at ∙ declared_again version w.0 w.1 encoding w.2)

would_be : (bytes : List ℕ) (d : Declared) → declared_in bytes ≡ Some d → WouldBeDeclaration bytes d.0 d.1
would_be bytes d e =
    let f = bind_some (behind opening bytes) declared_at d e in
    let t = declared_takes f.0 d.0 d.2 d.1 f.2 in
    (t.0, d.2, t.1, behind_takes opening bytes f.0 f.1 ∙ ap (λ (x : List ℕ). opening ++ x) t.2)

-- what would begin gives the version and the encoding that are read
same_declared : (bytes version : List ℕ) (encoding : Option (List ℕ)) (d : Declared) → declared_in bytes ≡ Some d → WouldBeDeclaration bytes version encoding → (version ≡ d.0) × (encoding ≡ d.1)
same_declared bytes version encoding d e w =
    let r = would_reads bytes version encoding w in
    let same = some_is (version, encoding, r.0) d (sym r.1 ∙ e) in
    (ap (λ (x : Declared). x.0) same, ap (λ (x : Declared). x.1) same)

loose_found : (bytes rest : List ℕ) (p : Piece) → IsUtf8 bytes → loose_tag_in bytes ≡ Some (p, rest) → WouldBeTag bytes
loose_found bytes rest p u e =
    let f = bind_some (behind (60 ∷ []) bytes) (tag_at Loose) (p, rest) e in
    let t = tag_takes Loose f.0 rest p f.2 (behind_utf8 (60 ∷ []) bytes f.0 refl f.1 u) in
    let parts : bytes ≡ 60 ∷ t.0 ++ rest = behind_takes (60 ∷ []) bytes f.0 f.1 ∙ ap (λ (x : List ℕ). 60 ∷ x) t.2 in
    elim t.1.1 [
      | inl k ↦ (62 ∷ [], t.1.0, t.0, rest, inl refl, k.1, parts)
      | inr k ↦ (47 ∷ 62 ∷ [], t.1.0, t.0, rest, inr refl, k.1, parts)
    ]

loose_go : (shut : List ℕ) (tag : Tag) (inner rest : List ℕ) → (shut ≡ 62 ∷ []) ⊎ (shut ≡ 47 ∷ 62 ∷ []) → IsTag Loose shut tag inner → (p : Piece) × (tag_at Loose (inner ++ rest) ≡ Some (p, rest))
loose_go shut tag inner rest (inl is) t = (Start tag, start_again Loose tag inner rest (subst (λ (x : List ℕ). IsTag Loose x tag inner) is t))
loose_go shut tag inner rest (inr is) t = (Empty tag, empty_again Loose tag inner rest (subst (λ (x : List ℕ). IsTag Loose x tag inner) is t))

no_loose : (bytes : List ℕ) → loose_tag_in bytes ≡ None → WouldBeTag bytes → ⊥
no_loose bytes none w =
    let g = loose_go w.0 w.1 w.2 w.3 w.4 w.5 in
    let at : behind (60 ∷ []) bytes ≡ Some (w.2 ++ w.3) = ap (behind (60 ∷ [])) w.6 ∙ behind_again (60 ∷ []) (w.2 ++ w.3) in
    never (g.0, w.3) (sym none ∙ ap (λ (o : Option (List ℕ)). o >>= tag_at Loose) at ∙ g.1)

no_bad : (bytes : List ℕ) → behind (38 ∷ []) bytes ≡ None → loose_tag_in bytes ≡ None → IsBadReference bytes → ⊥
no_bad bytes none loose (inl b) = never b.0 (sym none ∙ ap (behind (38 ∷ [])) b.1 ∙ behind_again (38 ∷ []) b.0)
no_bad bytes none loose (inr w) = no_loose bytes loose w

abbrev Passed : Bool → List ℕ → Type 0
Passed is_first bytes = (IsDoctype bytes → ⊥) × (IsBadVersion is_first bytes → ⊥) × (IsBadEncoding is_first bytes → ⊥)

loose_cases : (is_first : Bool) (bytes : List ℕ) (o : Option (Piece × List ℕ)) → loose_tag_in bytes ≡ o → IsUtf8 bytes → Passed is_first bytes → behind (38 ∷ []) bytes ≡ None → NoneReason is_first bytes (ahead o why.NoPiece (λ r. why.BadReference))
loose_cases is_first bytes (Some r) e u passed none = (passed.0, passed.1, passed.2, inr (loose_found bytes r.1 r.0 u e))
loose_cases is_first bytes None e u passed none = (passed.0, passed.1, passed.2, no_bad bytes none e)

reference_cases : (is_first : Bool) (bytes : List ℕ) (o : Option (List ℕ)) → behind (38 ∷ []) bytes ≡ o → IsUtf8 bytes → Passed is_first bytes → NoneReason is_first bytes (ahead o (ahead (loose_tag_in bytes) why.NoPiece (λ r. why.BadReference)) (λ r. why.BadReference))
reference_cases is_first bytes (Some r) e u passed = (passed.0, passed.1, passed.2, inl (r, behind_takes (38 ∷ []) bytes r e))
reference_cases is_first bytes None e u passed = loose_cases is_first bytes (loose_tag_in bytes) refl u passed e

reference_holds : (is_first : Bool) (bytes : List ℕ) → IsUtf8 bytes → Passed is_first bytes → NoneReason is_first bytes (reference_why bytes)
unfolding reference_why
reference_holds is_first bytes u passed = reference_cases is_first bytes (behind (38 ∷ []) bytes) refl u passed

encoding_cases : (bytes : List ℕ) (d : Declared) (w : Bool) → is_encoding d.1 ≡ w → declared_in bytes ≡ Some d → is_version d.0 ≡ true → IsUtf8 bytes → (IsDoctype bytes → ⊥) → NoneReason true bytes (cond w (reference_why bytes) why.Encoding)
encoding_cases bytes d true e found version u none = reference_holds true bytes u (
  none,
  λ b. (let same = same_declared bytes b.1 b.2 d found b.3 in let yes_v : is_version b.1 ≡ true = ap is_version same.0 ∙ version in let no_v = b.4 in absurd cc),
  λ b. (let same = same_declared bytes b.1 b.2 d found b.3 in let yes_e : is_encoding b.2 ≡ true = ap is_encoding same.1 ∙ e in let no_e = b.4 in absurd cc),
)
encoding_cases bytes d false e found version u none = (
  none,
  λ b. (let same = same_declared bytes b.1 b.2 d found b.3 in let yes_v : is_version b.1 ≡ true = ap is_version same.0 ∙ version in let no_v = b.4 in absurd cc),
  (refl, d.0, d.1, would_be bytes d found, e),
)

version_cases : (bytes : List ℕ) (d : Declared) (v : Bool) → is_version d.0 ≡ v → declared_in bytes ≡ Some d → IsUtf8 bytes → (IsDoctype bytes → ⊥) → NoneReason true bytes (cond v (cond (is_encoding d.1) (reference_why bytes) why.Encoding) why.Version)
version_cases bytes d true e found u none = encoding_cases bytes d (is_encoding d.1) refl found e u none
version_cases bytes d false e found u none = (none, (refl, d.0, d.1, would_be bytes d found, e))

declared_cases : (bytes : List ℕ) (o : Option Declared) → declared_in bytes ≡ o → IsUtf8 bytes → (IsDoctype bytes → ⊥) → NoneReason true bytes (ahead o (reference_why bytes) (λ d. cond (is_version d.0) (cond (is_encoding d.1) (reference_why bytes) why.Encoding) why.Version))
declared_cases bytes (Some d) e u none = version_cases bytes d (is_version d.0) refl e u none
declared_cases bytes None e u none = reference_holds true bytes u (
  none,
  λ b. (let r = would_reads bytes b.1 b.2 b.3 in never (b.1, b.2, r.0) (sym e ∙ r.1)),
  λ b. (let r = would_reads bytes b.1 b.2 b.3 in never (b.1, b.2, r.0) (sym e ∙ r.1)),
)

declared_holds : (is_first : Bool) (bytes : List ℕ) → IsUtf8 bytes → (IsDoctype bytes → ⊥) → NoneReason is_first bytes (declared_why is_first bytes)
unfolding declared_why
declared_holds true bytes u none = declared_cases bytes (declared_in bytes) refl u none
declared_holds false bytes u none = reference_holds false bytes u (none, λ b. absurd (let e = b.0 in cc), λ b. absurd (let e = b.0 in cc))

doctype_cases : (is_first : Bool) (bytes : List ℕ) (o : Option (List ℕ)) → behind doctype bytes ≡ o → IsUtf8 bytes → NoneReason is_first bytes (ahead o (declared_why is_first bytes) (λ r. why.Doctype))
doctype_cases is_first bytes (Some r) e u = (r, behind_takes doctype bytes r e)
doctype_cases is_first bytes None e u = declared_holds is_first bytes u (no_doctype bytes e)

-- the reason that is read holds
pub reason_holds : (is_first : Bool) (bytes : List ℕ) → IsUtf8 bytes → NoneReason is_first bytes (why_at is_first bytes)
unfolding why_at
reason_holds is_first bytes u = doctype_cases is_first bytes (behind doctype bytes) refl u

-- some reason holds
pub none_reason_some : (is_first : Bool) (bytes : List ℕ) → IsUtf8 bytes → (w : NoneWhy) × NoneReason is_first bytes w
none_reason_some is_first bytes u = (why_at is_first bytes, reason_holds is_first bytes u)

-- at most one reason holds
pub none_reason_one : (is_first : Bool) (bytes : List ℕ) (v w : NoneWhy) → NoneReason is_first bytes v → NoneReason is_first bytes w → v ≡ w
none_reason_one is_first bytes why.Doctype why.Doctype a b = refl
none_reason_one is_first bytes why.Doctype why.Version a b = absurd (b.0 a)
none_reason_one is_first bytes why.Doctype why.Encoding a b = absurd (b.0 a)
none_reason_one is_first bytes why.Doctype why.BadReference a b = absurd (b.0 a)
none_reason_one is_first bytes why.Doctype why.NoPiece a b = absurd (b.0 a)
none_reason_one is_first bytes why.Version why.Doctype a b = absurd (a.0 b)
none_reason_one is_first bytes why.Version why.Version a b = refl
none_reason_one is_first bytes why.Version why.Encoding a b = absurd (b.1 a.1)
none_reason_one is_first bytes why.Version why.BadReference a b = absurd (b.1 a.1)
none_reason_one is_first bytes why.Version why.NoPiece a b = absurd (b.1 a.1)
none_reason_one is_first bytes why.Encoding why.Doctype a b = absurd (a.0 b)
none_reason_one is_first bytes why.Encoding why.Version a b = absurd (a.1 b.1)
none_reason_one is_first bytes why.Encoding why.Encoding a b = refl
none_reason_one is_first bytes why.Encoding why.BadReference a b = absurd (b.2 a.2)
none_reason_one is_first bytes why.Encoding why.NoPiece a b = absurd (b.2 a.2)
none_reason_one is_first bytes why.BadReference why.Doctype a b = absurd (a.0 b)
none_reason_one is_first bytes why.BadReference why.Version a b = absurd (a.1 b.1)
none_reason_one is_first bytes why.BadReference why.Encoding a b = absurd (a.2 b.2)
none_reason_one is_first bytes why.BadReference why.BadReference a b = refl
none_reason_one is_first bytes why.BadReference why.NoPiece a b = absurd (b.3 a.3)
none_reason_one is_first bytes why.NoPiece why.Doctype a b = absurd (a.0 b)
none_reason_one is_first bytes why.NoPiece why.Version a b = absurd (a.1 b.1)
none_reason_one is_first bytes why.NoPiece why.Encoding a b = absurd (a.2 b.2)
none_reason_one is_first bytes why.NoPiece why.BadReference a b = absurd (a.3 b.3)
none_reason_one is_first bytes why.NoPiece why.NoPiece a b = refl
