-- What the reader tells, as the grammar says it.
use Rattle.std.proofs.Common.{◌≡◌, ℕ, ◌+◌, ◌≤◌, List, [], ◌∷◌, refl, sym, ap, ◌∙◌, arith, Option, Some, None}
use Rattle.module_grammar.specs.Shapes.{Sunk}
use Rattle.module_grammar.specs.Laws as laws
use Rattle.module_grammar.specs.Verdicts.{Verdict, Read, Syntax, TooDeep, Exact}
use Rattle.module_text.specs.declared.modules.PlainAssignment.{PlainAssignment}
use Rattle.module_text.specs.Depth.{Start, too_deep}
use Rattle.module_text.specs.Grammar.{IsTextOf, Begins, IsLongest, Sinks, IsBroken}
use Rattle.module_text.specs.Plain.{limit}
use Rattle.module_text.specs.Places.{placed}
use Rattle.module_text.specs.Texts.{text_of}
use Rattle.module_text.proofs.Placing.{text_of-placed}
use Rattle.module_grammar.specs.ModulesRead.{IsModuleHere, module_verdict}
use Rattle.module_grammar.specs.TypeDepth.{module_deep}
use Rattle.module_grammar.specs.TextsRead.{TextsRead, AllTextsRead}
use Rattle.module_grammar.proofs.ModuleLaws.{module_law, modules_exact}
use Rattle.module_grammar.proofs.DeepValues.{start, Leads}
use Rattle.module_grammar.proofs.DeepTypes.{module_leads}
use Rattle.module_grammar.proofs.PlacedAgain.{placed_here}

no_cons : (s : Start) (ss : List Start) → [] ≡ s ∷ ss → ⊥
no_cons s ss e = cc

no_none : (s : Sunk) → None ≡ Some s → ⊥
no_none s e = cc

same_start : (s t : Start) (ss ts : List Start) → (s ∷ ss) ≡ (t ∷ ts) → s ≡ t
same_start s t ss ts e = cc

-- nothing is listed just where nothing is too deep
none_listed : (place : ℕ) (d : Option Sunk) (starts : List Start) → Leads place d starts → starts ≡ [] → d ≡ None
none_listed place None starts h e = refl
none_listed place (Some s) starts h e = absurd (no_cons (start (place + s.at) (place + s.told)) h.0 (sym e ∙ h.1))

listed_none : (place : ℕ) (d : Option Sunk) (starts : List Start) → Leads place d starts → d ≡ None → starts ≡ []
listed_none place None starts h e = h
listed_none place (Some s) starts h e = absurd (no_none s (sym e))

first_listed : (place : ℕ) (d : Option Sunk) (starts others : List Start) (t : Start) → Leads place d starts → starts ≡ t ∷ others → (s : Sunk) × (d ≡ Some s) × (start (place + s.at) (place + s.told) ≡ t)
first_listed place None starts others t h e = absurd (no_cons t others (sym h ∙ e))
first_listed place (Some s) starts others t h e = (s, refl, same_start (start (place + s.at) (place + s.told)) t h.0 others (sym h.1 ∙ e))

lists_first : (place : ℕ) (d : Option Sunk) (starts : List Start) (s : Sunk) → Leads place d starts → d ≡ Some s → (others : List Start) × (starts ≡ start (place + s.at) (place + s.told) ∷ others)
lists_first place None starts s h e = absurd (no_none s e)
lists_first place (Some t) starts s h e = (h.0, h.1 ∙ ap (λ (k : Sunk). start (place + k.at) (place + k.told) ∷ h.0) (some_is t s e))
  where
    some_is : (t s : Sunk) → Some t ≡ Some s → t ≡ s
    some_is t s e = cc

module _ (most : ℕ) (is_limit : most ≡ limit) where
  abbrev MyBegins : List ℕ → ℕ → Type 0
  MyBegins = laws.Begins IsModuleHere (module_deep most) text_of 0

  abbrev MySinks : List ℕ → ℕ → Type 0
  MySinks = laws.Sinks IsModuleHere (module_deep most) text_of 0

  exact : Exact IsModuleHere (module_deep most) text_of (module_verdict most)
  exact = modules_exact most

  begins_to : (bytes : List ℕ) (n : ℕ) → MyBegins bytes n → Begins bytes n
  begins_to bytes n h = record { front = h.front; rest = h.rest; more = h.more; assignments = h.value; is = h.is; long = h.long; plain = h.fine.0; begins = h.begins }

  begins_from : (bytes : List ℕ) (n : ℕ) → Begins bytes n → MyBegins bytes n
  begins_from bytes n h = record { front = h.front; rest = h.rest; more = h.more; value = placed h.assignments; is = h.is; long = h.long; fine = placed_here h.assignments h.plain; begins = text_of-placed h.assignments ∙ h.begins }

  sinks_to : (bytes : List ℕ) (at : ℕ) → MySinks bytes at → Sinks bytes at
  sinks_to bytes at h =
      let l = lists_first 0 (module_deep most h.value) (too_deep h.value) h.sunk (module_leads most is_limit 0 h.value h.fine) h.deep_is in
      record {
        front = h.front;
        rest = h.rest;
        more = h.more;
        assignments = h.value;
        start = start (0 + h.sunk.at) (0 + h.sunk.told);
        others = l.0;
        is = h.is;
        plain = h.fine.0;
        begins = h.begins;
        deep = ap too_deep h.fine.1 ∙ l.1;
        told = omega (arith, h.long);
        place = omega (arith, h.at_is);
      }

  sinks_from : (bytes : List ℕ) (at : ℕ) → Sinks bytes at → MySinks bytes at
  sinks_from bytes at h =
      let f = placed_here h.assignments h.plain in
      let s = first_listed 0 (module_deep most (placed h.assignments)) (too_deep (placed h.assignments)) h.others h.start (module_leads most is_limit 0 (placed h.assignments) f) h.deep in
      let told : 0 + s.0.told ≡ h.start.told = ap (λ (k : Start). k.told) s.2 in
      let here : 0 + s.0.at ≡ h.start.at = ap (λ (k : Start). k.at) s.2 in
      let inside = (module_law most).inside 0 (placed h.assignments) s.0 f s.1 in
      record {
        front = h.front;
        rest = h.rest;
        more = h.more;
        value = placed h.assignments;
        sunk = s.0;
        is = h.is;
        at_is = omega (arith, here, h.place);
        first = omega (arith, here, h.place, told, h.told, inside.0);
        long = omega (arith, told, h.told);
        fine = f;
        deep_is = s.1;
        begins = text_of-placed h.assignments ∙ h.begins;
      }

  longest_to : (bytes : List ℕ) (n : ℕ) → laws.Longest IsModuleHere (module_deep most) text_of 0 bytes n → IsLongest bytes n
  longest_to bytes n h = record { begins = begins_to bytes n h.begins; most = λ m b. h.most m (begins_from bytes m b) }

  text_to : (bytes : List ℕ) (ms : List PlainAssignment) → module_verdict most bytes ≡ Read ms → IsTextOf bytes ms
  text_to bytes ms e =
      let h = exact.read bytes ms e in
      record { plain = h.0.0; text = h.2; places = h.0.1; shallow = listed_none 0 (module_deep most ms) (too_deep ms) (module_leads most is_limit 0 ms h.0) h.1 }

  text_from : (bytes : List ℕ) (ms : List PlainAssignment) → IsTextOf bytes ms → module_verdict most bytes ≡ Read ms
  text_from bytes ms h = exact.reads bytes ms (h.plain, h.places) (none_listed 0 (module_deep most ms) (too_deep ms) (module_leads most is_limit 0 ms (h.plain, h.places)) h.shallow) h.text

  broken_to : (bytes : List ℕ) (n : ℕ) → module_verdict most bytes ≡ Syntax n → IsBroken bytes n
  broken_to bytes n e = record {
    longest = longest_to bytes n (exact.syntax_longest bytes n e);
    no_text = λ ms f t. exact.syntax_no_text bytes n (placed ms) e (placed_here ms f) (text_of-placed ms ∙ t);
    shallow = λ at s. exact.syntax_shallow bytes n at e (sinks_from bytes at s);
  }

  broken_from : (bytes : List ℕ) (at : ℕ) → IsBroken bytes at → module_verdict most bytes ≡ Syntax at
  broken_from bytes at h = cases (module_verdict most bytes) refl
    where
      cases : (v : Verdict (List PlainAssignment)) → module_verdict most bytes ≡ v → module_verdict most bytes ≡ Syntax at
      cases (Read ms) e = let t = text_to bytes ms e in absurd (h.no_text ms t.plain t.text)
      cases (Syntax n) e =
          let l = longest_to bytes n (exact.syntax_longest bytes n e) in
          let up : at ≤ n = l.most at h.longest.begins in
          let down : n ≤ at = h.longest.most n l.begins in
          let same : n ≡ at = omega arith in
          e ∙ ap (λ k. Syntax k) same
      cases (TooDeep k) e = absurd (h.shallow k (sinks_to bytes k (exact.too_deep bytes k e)))

  texts_read : TextsRead most
  texts_read = record {
    texts = λ bytes ms. (text_to bytes ms, text_from bytes ms);
    broken = λ bytes at. (broken_to bytes at, broken_from bytes at);
    deep = λ bytes at. ((λ e. sinks_to bytes at (exact.too_deep bytes at e)), (λ s. exact.sinks bytes at (sinks_from bytes at s)));
  }

pub all_texts_read : AllTextsRead
all_texts_read most e = texts_read most e
