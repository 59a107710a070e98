-- What a state has told, and that each step tells what its piece does.
use Rattle.std.proofs.Common.{◌≡◌, ◌≢◌, ℕ, Bool, true, false, cond, List, [], ◌∷◌, ◌++◌, map, refl, sym, ap, ◌∙◌, append_assoc, None}
use Rattle.std.specs.Prelude.{not, encode_utf8}
use Rattle.std.proofs.lemmas.List.{append-nil}
use Rattle.base_texts.specs.Limits.{is_empty}
use Rattle.base_trees.specs.Rose.{Rose, node, none, roses_of}
use Rattle.xml_pieces.specs.Pieces.{Tag, Piece, Declaration, Start, Empty, End, Comment, Instruction, CData, Reference, Character}
use Rattle.xml_items.specs.declared.label.ItemLabel.{ItemLabel}
use Rattle.xml_items.specs.declared.label.ItemLabel.TheVariants.{Text}
use Rattle.xml_read.specs.declared.error.DocWhy.{DocWhy}
use Rattle.xml_read.specs.declared.error.DocWhy.TheVariants as why
use Rattle.xml_read.specs.Contexts.{Context, scope, inner, is_innermost, reason, after, brackets_after, end_tests}
use Rattle.base_texts.specs.Entries.{first_true}
use Rattle.xml_read.specs.Tokens.{Token, Opens, Closes, Words, tokens, tokens_all, join}
use Rattle.xml_read.specs.Documents.{told, opening}
use Rattle.xml_read.specs.Private.States.{Above, State, context, open_of, with_text, kids_of_state, entering, element_of, closed, added, step}

-- ---- what is told

abbrev pub all : List (Rose ItemLabel) → List Token
all kids = tokens_all (roses_of kids)

abbrev pub start_of : Above → Token
start_of a = Opens a.name a.attributes a.declares a.at

abbrev pub outer : List Above → List Token → List Token
outer [] ts = ts
outer (a ∷ above) ts = outer above (all a.before ++ start_of a ∷ ts)

-- what is told, where what follows tells these tokens
abbrev pub so_far : State → List Token → List Token
so_far s ts = outer s.above (all s.kids ++ join s.text s.text_at ts)

abbrev pub IsTag : Token → Type 0
IsTag (Opens name attributes declares at) = Unit {0}
IsTag Closes = Unit {0}
IsTag (Words text at) = ⊥

pub all-push : (kids : List (Rose ItemLabel)) (kid : Rose ItemLabel) → all (kids ++ kid ∷ []) ≡ all kids ++ tokens kid
all-push [] kid = append-nil (tokens kid)
all-push (k ∷ kids) kid = ap (λ (r : List Token). tokens k ++ r) (all-push kids kid) ∙ sym (append_assoc (tokens k) (all kids) (tokens kid))

join-tag : (b : ℕ) (bs : List ℕ) (at : ℕ) (t : Token) (ts : List Token) → IsTag t → join (b ∷ bs) at (t ∷ ts) ≡ Words (b ∷ bs) at ∷ t ∷ ts
join-tag b bs at (Opens n a d p) ts h = refl
join-tag b bs at Closes ts h = refl
join-tag b bs at (Words t p) ts h = absurd h

flush : (kids : List (Rose ItemLabel)) (text : List ℕ) (at : ℕ) (t : Token) (ts : List Token) → IsTag t → all (with_text kids text at) ++ t ∷ ts ≡ all kids ++ join text at (t ∷ ts)
flush kids [] at t ts h = refl
flush kids (b ∷ bs) at t ts h = rw (all-push kids (node (Text (b ∷ bs) at) none), join-tag b bs at t ts h) (append_assoc (all kids) (Words (b ∷ bs) at ∷ []) (t ∷ ts))

-- characters behind others
pub join-join : (text further : List ℕ) (p q at : ℕ) (ts : List Token) → (text ≡ [] → p ≡ at) → (text ≢ [] → p ≡ q) → join (text ++ further) p ts ≡ join text q (join further at ts)
join-join [] further p q at ts e f = rw (e refl) refl
join-join (b ∷ bs) [] p q at ts e f = ap (λ (x : List ℕ). join x p ts) (append-nil (b ∷ bs)) ∙ ap (λ (r : ℕ). join (b ∷ bs) r ts) (f (λ g. absurd cc))
join-join (b ∷ bs) (c ∷ cs) p q at [] e f = rw (f (λ g. absurd cc)) refl
join-join (b ∷ bs) (c ∷ cs) p q at (Words t r ∷ ts) e f = rw (f (λ g. absurd cc), append_assoc (b ∷ bs) (c ∷ cs) t) refl
join-join (b ∷ bs) (c ∷ cs) p q at (Opens n a d r ∷ ts) e f = rw (f (λ g. absurd cc)) refl
join-join (b ∷ bs) (c ∷ cs) p q at (Closes ∷ ts) e f = rw (f (λ g. absurd cc)) refl

-- ---- what no reason says

pub passes : (b : Bool) (w : DocWhy) (later : List (Bool × DocWhy)) → first_true ((b, w) ∷ later) ≡ None → (b ≡ false) × (first_true later ≡ None)
passes true w later e = absurd cc
passes false w later e = (refl, e)

-- each test has failed
abbrev pub Passed : List (Bool × DocWhy) → Type 0
Passed [] = Unit {0}
Passed (test ∷ later) = (test.0 ≡ false) × Passed later

pub passed : (tests : List (Bool × DocWhy)) → first_true tests ≡ None → Passed tests
passed [] e = tt
passed (test ∷ later) e = let h = passes test.0 test.1 later e in (h.0, passed later h.1)

not_false : (b : Bool) → not b ≡ false → b ≡ true
not_false true e = refl
not_false false e = absurd cc

pub innermost_is : (written : List ℕ) (c : Context) → reason (End written) c ≡ None → is_innermost written c.elements ≡ true
unfolding reason
innermost_is written c e = not_false (is_innermost written c.elements) (passed (end_tests written (scope c) c.elements) e).1.1.1.0

-- ---- contexts

pub is_empty-map : {A B : Type 0} (f : A → B) (xs : List A) → is_empty (map f xs) ≡ is_empty xs
is_empty-map f [] = refl
is_empty-map f (x ∷ xs) = refl

abbrev pub context_by : List Above → Bool → Bool → ℕ → Context
context_by above ended first brackets = record { elements = map open_of above; ended = ended; first = first; brackets = brackets }

context-ended : (above : List Above) (a b f : Bool) (n : ℕ) → a ≡ b → context_by above a f n ≡ context_by above b f n
context-ended above a b f n e = rw e refl

context-closed : (above : List Above) (s : State) → context (closed above s) ≡ record { elements = inner (map open_of above); ended = is_empty (inner (map open_of above)); first = false; brackets = 0 }
context-closed [] s = refl
context-closed (a ∷ above) s = context-ended above (is_empty above) (is_empty (map open_of above)) false 0 (sym (is_empty-map open_of above))

pub context-added : (text : List ℕ) (at n : ℕ) (s : State) (above : List Above) → above ≡ s.above → context (added text at n s) ≡ context_by s.above s.ended false n
context-added text at n s [] e = rw (← e) refl
context-added text at n s (a ∷ above) e = rw (← e) refl

pub context-step : (p : Piece) (at : ℕ) (s : State) → context (step p at s) ≡ after p (context s)
context-step Declaration at s = refl
context-step (Start tag) at s = refl
context-step (Empty tag) at s = context-ended s.above (is_empty s.above) (is_empty (map open_of s.above)) false 0 (sym (is_empty-map open_of s.above))
context-step (End written) at s = context-closed s.above s
context-step Comment at s = refl
context-step Instruction at s = refl
context-step (CData text) at s = context-added text at 0 s s.above refl
context-step (Reference code) at s = context-added (encode_utf8 code) at 0 s s.above refl
context-step (Character code) at s = context-added (encode_utf8 code) at (brackets_after code s.brackets) s s.above refl

-- ---- telling

tells_empty : (s : State) (tag : Tag) (at : ℕ) (ts : List Token) → so_far (step (Empty tag) at s) ts ≡ so_far s (told (Empty tag) (context s) at ts)
tells_empty s tag at ts =
    let e = element_of (entering tag (scope (context s)) at []) [] in
    let o = opening tag (context s) at in
    let kids = kids_of_state s in
    ap (outer s.above) (ap (λ (r : List Token). r ++ ts) (all-push kids e) ∙ append_assoc (all kids) (o ∷ Closes ∷ []) ts ∙ flush s.kids s.text s.text_at o (Closes ∷ ts) tt)

tells_end : (s : State) (above : List Above) (ts : List Token) → (is_empty above ≡ true → ⊥) → so_far (closed above s) ts ≡ outer above (all s.kids ++ join s.text s.text_at (Closes ∷ ts))
tells_end s [] ts h = absurd (h refl)
tells_end s (a ∷ above) ts h =
    let kids = kids_of_state s in
    let one : all (a.before ++ element_of a kids ∷ []) ++ ts ≡ all a.before ++ (tokens (element_of a kids) ++ ts) = ap (λ (r : List Token). r ++ ts) (all-push a.before (element_of a kids)) ∙ append_assoc (all a.before) (tokens (element_of a kids)) ts in
    let two : (all kids ++ Closes ∷ []) ++ ts ≡ all s.kids ++ join s.text s.text_at (Closes ∷ ts) = append_assoc (all kids) (Closes ∷ []) ts ∙ flush s.kids s.text s.text_at Closes ts tt in
    ap (outer above) (one ∙ ap (λ (r : List Token). all a.before ++ start_of a ∷ r) two)

tells_added : (text : List ℕ) (at n : ℕ) (s : State) (above : List Above) (ts : List Token) → above ≡ s.above → is_empty above ≡ false → so_far (added text at n s) ts ≡ so_far s (join text at ts)
tells_added text at n s [] ts e h = absurd cc
tells_added text at n s (a ∷ above) ts e h =
    let inside : is_empty s.above ≡ false = rw (← e) refl in
    let empty : (xs : List ℕ) → xs ≡ [] → cond (is_empty xs) at s.text_at ≡ at = λ xs g. rw g refl in
    let full : (xs : List ℕ) → xs ≢ [] → cond (is_empty xs) at s.text_at ≡ s.text_at = λ xs. elim xs as (λ (v : List ℕ). v ≢ [] → cond (is_empty v) at s.text_at ≡ s.text_at) [ [] ↦ (λ g. absurd (g refl)) | (y ∷ ys) ↦ (λ g. refl) ] in
    rw inside (ap (λ (r : List Token). outer s.above (all s.kids ++ r)) (join-join s.text text _ s.text_at at ts (empty s.text) (full s.text)))

not_outside : (w : DocWhy) (above : List Above) (later : List (Bool × DocWhy)) → first_true ((is_empty (map open_of above), w) ∷ later) ≡ None → is_empty above ≡ false
not_outside w above later e = sym (is_empty-map open_of above) ∙ (passes (is_empty (map open_of above)) w later e).0

tells_char : (code at n : ℕ) (s : State) (above : List Above) (ts : List Token) → above ≡ s.above → so_far (added (encode_utf8 code) at n s) ts ≡ so_far s (told (Character code) (context s) at ts)
tells_char code at n s [] ts e = rw (← e) refl
tells_char code at n s (a ∷ above) ts e =
    let inside : is_empty (map open_of s.above) ≡ false = rw (← e) refl in
    tells_added (encode_utf8 code) at n s (a ∷ above) ts e refl ∙ (let same : join (encode_utf8 code) at ts ≡ told (Character code) (context s) at ts = rw inside refl in ap (so_far s) same)

pub some_innermost : (written : List ℕ) (above : List Above) → is_innermost written (map open_of above) ≡ true → is_empty above ≡ true → ⊥
some_innermost written [] e h = absurd cc
some_innermost written (a ∷ above) e h = absurd cc

-- where no reason stands against the piece
pub tells : (p : Piece) (at : ℕ) (s : State) (ts : List Token) → reason p (context s) ≡ None → so_far (step p at s) ts ≡ so_far s (told p (context s) at ts)
unfolding reason
tells Declaration at s ts e = refl
tells (Start tag) at s ts e = ap (outer s.above) (flush s.kids s.text s.text_at (opening tag (context s) at) ts tt)
tells (Empty tag) at s ts e = tells_empty s tag at ts
tells (End written) at s ts e = tells_end s s.above ts (some_innermost written s.above (innermost_is written (context s) e))
tells Comment at s ts e = refl
tells Instruction at s ts e = refl
tells (CData text) at s ts e = tells_added text at 0 s s.above ts refl (not_outside why.TextOutside s.above [] e)
tells (Reference code) at s ts e = tells_added (encode_utf8 code) at 0 s s.above ts refl (not_outside why.TextOutside s.above [] e)
tells (Character code) at s ts e = tells_char code at (brackets_after code s.brackets) s s.above ts refl
