-- Pieces one after the other, up to the end or the first fault.
use Rattle.std.proofs.Common.{◌≡◌, ◌≢◌, ℕ, ◌+◌, ◌-◌, ◌≤◌, true, false, List, [], ◌∷◌, ◌++◌, length, drop, Some, None, refl, ap, subst, ◌∙◌, arith, inl, inr}
use Rattle.std.specs.Prelude.{IsUtf8}
use Rattle.std.proofs.lemmas.List.{length-append, append-nil, length-drop}
use Rattle.base_trees.specs.Rose.{Rose, Allowed}
use Rattle.xml_pieces.specs.Pieces.{Piece, Begins, NoPieceAt}
use Rattle.xml_pieces.specs.Reasons.{NoneReason}
use Rattle.xml_pieces.specs.declared.reason.NoneWhy.{NoneWhy}
use Rattle.xml_items.specs.declared.label.ItemLabel.{ItemLabel}
use Rattle.xml_read.specs.declared.error.DocWhy.{DocWhy}
use Rattle.xml_read.specs.declared.error.DocWhy.TheVariants as why
use Rattle.xml_items.specs.Labels.{MayHave}
use Rattle.xml_read.specs.Contexts.{Context, start, reason, after}
use Rattle.xml_read.specs.Tokens.{Token, tokens}
use Rattle.xml_read.specs.Documents.{told, Whole, Broken, why_of, mark_len, DocOf, BrokenAt}
use Rattle.xml_read.specs.Private.States.{State, nothing, context, step}
use Rattle.xml_read.proofs.Telling.{so_far, context-step, tells}

abbrev pub behind_mark : List ℕ → List ℕ
behind_mark bytes = drop (mark_len bytes) bytes

abbrev pub place_of : List ℕ → List ℕ → ℕ
place_of bytes rest = length bytes - length rest

-- a reader that stands before this rest, in this state: whatever the rest is, it completes the whole
pub record Reaches (bytes rest : List ℕ) (s : State) : Type 0 where
  pub within : length rest ≤ length bytes
  pub docs : (ps : List Piece) (ts : List Token) → Whole ps (context s) (place_of bytes rest) rest ts
      → (qs : List Piece) × Whole qs start (mark_len bytes) (behind_mark bytes) (so_far s ts)
  pub breaks : (ps : List Piece) (place : ℕ) (cause : DocWhy) → Broken ps (context s) (place_of bytes rest) rest place cause
      → (qs : List Piece) × Broken qs start (mark_len bytes) (behind_mark bytes) place cause

abbrev pair : Context → ℕ → Context × ℕ
pair c n = (c, n)

pair_is : (c d : Context) (m n : ℕ) → c ≡ d → m ≡ n → pair c m ≡ pair d n
pair_is c d m n p q = rw (p, q) refl

whole_at : (ps : List Piece) (c d : Context) (m n : ℕ) (bytes : List ℕ) (ts : List Token) → c ≡ d → m ≡ n → Whole ps c m bytes ts → Whole ps d n bytes ts
whole_at ps c d m n bytes ts p q w = subst (λ (x : Context × ℕ). Whole ps x.0 x.1 bytes ts) (pair_is c d m n p q) w

broken_at : (ps : List Piece) (c d : Context) (m n : ℕ) (bytes : List ℕ) (place : ℕ) (cause : DocWhy) → c ≡ d → m ≡ n → Broken ps c m bytes place cause → Broken ps d n bytes place cause
broken_at ps c d m n bytes place cause p q w = subst (λ (x : Context × ℕ). Broken ps x.0 x.1 bytes place cause) (pair_is c d m n p q) w

pub begins : (bytes rest : List ℕ) → rest ≡ behind_mark bytes → mark_len bytes ≤ length bytes → Reaches bytes rest nothing
begins bytes rest e short =
    let long : length rest ≡ length bytes - mark_len bytes = ap length e ∙ length-drop (mark_len bytes) bytes in
    let place : place_of bytes rest ≡ mark_len bytes = omega (arith, long, short) in
    record {
      within = omega (arith, long);
      docs = λ ps ts w. (ps, subst (λ (r : List ℕ). Whole ps start (mark_len bytes) r ts) e (whole_at ps start start (place_of bytes rest) (mark_len bytes) rest ts refl place w));
      breaks = λ ps at cause w. (ps, subst (λ (r : List ℕ). Broken ps start (mark_len bytes) r at cause) e (broken_at ps start start (place_of bytes rest) (mark_len bytes) rest at cause refl place w));
    }

pub front_len : (p : Piece) (rest behind : List ℕ) (b : Begins p rest behind) → length rest ≡ length b.front + length behind
front_len p rest behind b = ap length b.parts ∙ length-append b.front behind

pub goes_on : (bytes rest behind : List ℕ) (s : State) (p : Piece) (at : ℕ) → Reaches bytes rest s → at ≡ place_of bytes rest → Begins p rest behind → reason p (context s) ≡ None → Reaches bytes behind (step p at s)
goes_on bytes rest behind s p at reaches at_is b none =
    let long : length rest ≡ length b.front + length behind = front_len p rest behind b in
    let place_is : place_of bytes behind ≡ place_of bytes rest + length b.front = omega (arith, reaches.within, long) in
    record {
      within = omega (arith, reaches.within, long);
      docs = λ ps ts w.
          let later : Whole ps (after p (context s)) (place_of bytes rest + length b.front) behind ts = whole_at ps (context (step p at s)) (after p (context s)) (place_of bytes behind) (place_of bytes rest + length b.front) behind ts (context-step p at s) place_is w in
          let tells_it : told p (context s) at ts ≡ told p (context s) (place_of bytes rest) ts = ap (λ (n : ℕ). told p (context s) n ts) at_is in
          rw (tells p at s ts none) (reaches.docs (p ∷ ps) (told p (context s) at ts) (behind, ts, b, none, tells_it, later));
      breaks = λ ps place cause w. reaches.breaks (p ∷ ps) place cause (behind, b, none, broken_at ps (context (step p at s)) (after p (context s)) (place_of bytes behind) (place_of bytes rest + length b.front) behind place cause (context-step p at s) place_is w);
    }

-- at a fault
pub stops : (bytes rest behind : List ℕ) (s : State) (p : Piece) (at : ℕ) (cause : DocWhy) → IsUtf8 bytes → Reaches bytes rest s → at ≡ place_of bytes rest → Begins p rest behind → rest ≢ [] → reason p (context s) ≡ Some cause → BrokenAt bytes at cause
stops bytes [] behind s p at cause utf8 reaches at_is b some e = absurd (some refl)
stops bytes (x ∷ rest) behind s p at cause utf8 reaches at_is b some e = inr (utf8, reaches.breaks [] at cause (at_is, inr (p, behind, b, e)))

pub stops_where_none : (bytes rest : List ℕ) (s : State) (at : ℕ) (cause : NoneWhy) → IsUtf8 bytes → Reaches bytes rest s → at ≡ place_of bytes rest → rest ≢ [] → NoPieceAt rest → NoneReason s.first rest cause → BrokenAt bytes at (why_of cause)
stops_where_none bytes [] s at cause utf8 reaches at_is some none because = absurd (some refl)
stops_where_none bytes (x ∷ rest) s at cause utf8 reaches at_is some none because = inr (utf8, reaches.breaks [] at (why_of cause) (at_is, inl (none, (cause, because, refl))))

pub is_unfinished : (bytes : List ℕ) (s : State) (at : ℕ) → IsUtf8 bytes → Reaches bytes [] s → at ≡ length bytes → s.ended ≡ false → BrokenAt bytes at why.Unfinished
is_unfinished bytes s at utf8 reaches at_is open_still = inr (utf8, reaches.breaks [] at why.Unfinished (at_is ∙ (omega arith), (open_still, refl)))

pub is_whole : (bytes : List ℕ) (s : State) (root : Rose ItemLabel) → IsUtf8 bytes → Reaches bytes [] s → s.ended ≡ true → s.above ≡ [] → s.text ≡ [] → s.kids ≡ root ∷ [] → Allowed MayHave root → DocOf bytes root
is_whole bytes s root utf8 reaches ended above text kids allowed =
    let found = reaches.docs [] [] (ended, refl, refl) in
    let tells_it : so_far s [] ≡ tokens root = rw (above, kids, text) (append-nil (tokens root ++ []) ∙ append-nil (tokens root)) in
    record { utf8 = utf8; allowed = allowed; pieces = found.0; whole = subst (Whole found.0 start (mark_len bytes) (behind_mark bytes)) tells_it found.1 }
