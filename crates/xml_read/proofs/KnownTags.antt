-- Tags that are taken by names as they were written before.
use Rattle.std.proofs.Common.{◌≡◌, ℕ, ◌+◌, ◌-◌, ◌≤◌, ◌<◌, Bool, true, false, List, [], ◌∷◌, ◌++◌, length, map, take, Option, None, Some, refl, sym, ap, subst, ◌∙◌, inl, inr, arith}
use Rattle.std.specs.Prelude.{IsUtf8, reverse, not, slice_get, IfSome, IfOk, IfErr, MatchOption, Result}
use Rattle.std.specs.Borrow.{Bor}
use Rattle.std.proofs.Math.Seq.{get_or-append_seam}
use Rattle.std.proofs.lemmas.List.{length-append, length-take-le}
use Rattle.std.proofs.lemmas.Option.{slice_get_within, get_or_from_slice_get}
use Rattle.std.proofs.lemmas.Slice.Eq.{bytes_eq-Decides}
use Rattle.base_flat_trees.specs.Zips as zips
use Rattle.xml_pieces.specs.Pieces.{Start, End}
use Rattle.xml_items.specs.declared.label.ItemLabel.{ItemLabel}
use Rattle.xml_read.specs.declared.builder.Builder.{Builder}
use Rattle.xml_pieces.specs.QNames.{is_qname}
use Rattle.xml_read.specs.Contexts.{Context, is_innermost, scope, reason, start_reason, start_tests, end_tests}
use Rattle.xml_read.specs.Private.States.{context, open_of, opened, added}
use Rattle.xml_read.specs.Private.Building.{aboves, state, Scoped, Takes, TakesFirst, TakesKnown, IsLeaf, PutsLeaf, CanPut, StopsFirst, EndsInnermost, Flushed, Shuts}
use Rattle.xml_read.specs.Private.Entering.{IsNamed, Stopped}
use Rattle.xml_read.specs.Private.Noting.{bare}
use Rattle.base_texts.specs.Entries.{first_true}
use Rattle.base_texts.specs.Limits.{is_empty}
use Rattle.xml_read.proofs.OpenNames.{named_tag, ends_named}
use Rattle.xml_read.proofs.Known.{laws}
use Rattle.xml_read.specs.declared.error.DocError.{DocError}
use Rattle.xml_read.specs.declared.error.DocError.TheVariants as errors
use Rattle.xml_read.proofs.Telling.{passed}
use Rattle.xml_read.proofs.Soundness.{or_parts}
use Rattle.xml_read.proofs.Built.{aboves-push, last_of, end_stops, ends_open, end_takes}
use Rattle.xml_read.proofs.TagPieces.{start_begins, end_begins}

-- ---- the name of the innermost element

innermost_by : (front : List (Bor (List ℕ))) (x w : Bor (List ℕ)) (up : List (zips.Above ItemLabel)) → slice_get (front ++ x ∷ []) (length front) ≡ Some w → is_innermost w.now (map open_of (aboves (reverse (front ++ x ∷ [])) up)) ≡ true
innermost_by front x w up e =
    let same : x ≡ w = sym (get_or-append_seam front x [] w) ∙ get_or_from_slice_get (front ++ x ∷ []) (length front) w w e in
    rw (aboves-push front x up, same) ((bytes_eq-Decides w.now w.now).1 refl)

innermost_of : (names : List (Bor (List ℕ))) (w : Bor (List ℕ)) (up : List (zips.Above ItemLabel)) → slice_get names (length names - 1) ≡ Some w → is_innermost w.now (map open_of (aboves (reverse names) up)) ≡ true
innermost_of names w up e =
    let some : length names - 1 < length names = slice_get_within names (length names - 1) w e in
    let last = last_of names (omega (arith, some)) in
    let front = take (length names - 1) names in
    let count : length names - 1 ≡ length front = sym (length-take-le (length names - 1) names (omega arith)) in
    let here : slice_get (front ++ last.0 ∷ []) (length front) ≡ Some w = subst (λ (n : ℕ). slice_get (front ++ last.0 ∷ []) n ≡ Some w) count (subst (λ (ns : List (Bor (List ℕ))). slice_get ns (length names - 1) ≡ Some w) last.1 e) in
    subst (λ (ns : List (Bor (List ℕ))). is_innermost w.now (map open_of (aboves (reverse ns) up)) ≡ true) (sym last.1) (innermost_by front last.0 w up here)

pub innermost_here : (b : Builder) (w : Bor (List ℕ)) → slice_get b.open.items (length b.open.items - 1) ≡ Some w → is_innermost w.now (context (state b)).elements ≡ true
innermost_here b w e = innermost_of b.open.items w b.items.zip.above e

pub some_end : (r : Option (Bor (List ℕ))) (written name : List ℕ) (c : Context) → is_innermost name c.elements ≡ true → IfSome r (λ behind. written ≡ name ++ 0x3E ∷ behind.now) → IfSome r (λ behind. EndsInnermost written behind.now c)
some_end None written name c h e = tt
some_end (Some behind) written name c h e = record { name = name; innermost = h; parts = e }

-- ---- its end tag

pub none_against : (b : Builder) (name : List ℕ) → Scoped b → is_innermost name (context (state b)).elements ≡ true → reason (End name) (context (state b)) ≡ None
none_against b name scoped e = sym (end_stops b name scoped) ∙ sym (ends_open b name scoped e)

not_false : (b : Bool) → not b ≡ false → b ≡ true
not_false true e = refl
not_false false e = absurd cc

end_named : (name : List ℕ) (c : Context) → reason (End name) c ≡ None → is_qname name ≡ true
unfolding reason
end_named name c e = not_false (is_qname name) (passed (end_tests name (scope c) c.elements) e).0

pub end_taken : (written behind : List ℕ) (old mid new : Builder) (at : ℕ) → Scoped old → EndsInnermost written behind (context (state old)) → Flushed old mid → Shuts mid new → TakesFirst (0x3C ∷ 0x2F ∷ written) behind at old new
end_taken written behind old mid new at scoped e flushed shut =
    let none = none_against old e.name scoped e.innermost in
    record {
      piece = End e.name;
      begins = end_begins e.name (0x3C ∷ 0x2F ∷ written) behind (end_named e.name (context (state old)) none) (ap (λ (x : List ℕ). 0x3C ∷ 0x2F ∷ x) e.parts);
      takes = end_takes old mid new e.name at none flushed shut;
    }

-- ---- a start tag

pub start_named : (name : List ℕ) (c : Context) → reason (Start (bare name)) c ≡ None → is_qname name ≡ true
unfolding reason
start_named name c e = not_false (is_qname name) (or_parts _ _ (passed (start_tests (bare name) (scope c) c.ended (length c.elements)) e).0).0

pub start_taken : (name tag behind : List ℕ) (old new : Builder) (at : ℕ) → tag ≡ name ++ 0x3E ∷ behind → Takes (Start (bare name)) at old new → TakesFirst (0x3C ∷ tag) behind at old new
start_taken name tag behind old new at parts takes = record {
  piece = Start (bare name);
  begins = start_begins name (0x3C ∷ tag) behind (start_named name (context (state old)) takes.none) (ap (λ (x : List ℕ). 0x3C ∷ x) parts);
  takes = takes;
}

pub start_stopped : (name tag behind : List ℕ) (old : Builder) (at : ℕ) (e : DocError) → is_qname name ≡ true → tag ≡ name ++ 0x3E ∷ behind → Stopped (reason (Start (bare name)) (context (state old))) at e → StopsFirst (0x3C ∷ tag) at old e
start_stopped name tag behind old at (errors.Syntax place why) qname parts stopped = (Start (bare name), behind, start_begins name (0x3C ∷ tag) behind qname (ap (λ (x : List ℕ). 0x3C ∷ x) parts), stopped)
start_stopped name tag behind old at errors.Memory qname parts stopped = tt

-- ---- an element of plain characters alone

not_empty : (xs : List ℕ) → 0 < length xs → is_empty xs ≡ false
not_empty [] some = absurd (omega (arith, some))
not_empty (x ∷ xs) some = refl

pub some_front : (len : ℕ) (bytes : List ℕ) → 0 < len → len ≤ length bytes → is_empty (take len bytes) ≡ false
some_front len bytes some within = not_empty (take len bytes) (omega (arith, some, length-take-le len bytes within))

pub inner_utf8 : (name tag behind : List ℕ) → is_qname name ≡ true → tag ≡ name ++ 0x3E ∷ behind → IsUtf8 (0x3C ∷ tag) → IsUtf8 behind
inner_utf8 name tag behind qname parts u = laws.utf8 (Start (bare name)) (0x3C ∷ tag) behind u (start_begins name (0x3C ∷ tag) behind qname (ap (λ (x : List ℕ). 0x3C ∷ x) parts))

within_tag : (name tag behind : List ℕ) (at : ℕ) → tag ≡ name ++ 0x3E ∷ behind → at + length tag ≤ 16777216 → at + length name ≤ 16777216
within_tag name tag behind at parts h = omega (arith, ap length parts, length-append name (0x3E ∷ behind))

pub leaf_can : (name tag inner behind : List ℕ) (len at : ℕ) → tag ≡ name ++ 0x3E ∷ inner → IsLeaf name inner len behind → at + length tag ≤ 16777216 → CanPut name inner len at
leaf_can name tag inner behind len at parts leaf h = record { some = leaf.some; within = leaf.within; run = leaf.run; place = within_tag name tag inner at parts h }

pub leaf_taken : (name tag inner behind : List ℕ) (len : ℕ) (old new : Builder) (at : ℕ) → tag ≡ name ++ 0x3E ∷ inner → IsLeaf name inner len behind → (reason (Start (bare name)) (context (state old)) ≡ None) × PutsLeaf (bare name) at (take len inner) (at + length name + 2) old new → TakesKnown (0x3C ∷ tag) behind at old new
leaf_taken name tag inner behind len old new at parts leaf puts = inr (record { name = name; inner = inner; len = len; none = puts.0; parts = ap (λ (x : List ℕ). 0x3C ∷ x) parts; leaf = leaf; puts = puts.1 })

named_inside : (name : List ℕ) (c : Context) → reason (Start (bare name)) c ≡ None → IsNamed name (scope c)
unfolding reason start_reason
named_inside name c e = named_tag (bare name) (scope c) c.ended (length c.elements) e

against_end : (name : List ℕ) (c : Context) → first_true (end_tests name (scope c) c.elements) ≡ None → reason (End name) c ≡ None
unfolding reason
against_end name c e = e

-- nothing speaks against its end tag
pub leaf_ends : (name : List ℕ) (b : Builder) (at : ℕ) (text : List ℕ) (text_at : ℕ) → Scoped b → reason (Start (bare name)) (context (state b)) ≡ None → reason (End name) (context (added text text_at 0 (opened (bare name) at (state b)))) ≡ None
leaf_ends name b at text text_at scoped none =
    let inside = context (added text text_at 0 (opened (bare name) at (state b))) in
    against_end name inside (ends_named name inside.elements (named_inside name (context (state b)) none, scoped.named) ((bytes_eq-Decides name name).1 refl))

-- ---- what is taken, or nothing

abbrev pub Taken : List ℕ → ℕ → Builder → Builder → Option (Bor (List ℕ)) → Type 0
Taken rest at old new found = MatchOption found (new ≡ old) (λ behind. TakesKnown rest behind.now at old new)

pub end_or_none : (rest tag : List ℕ) (at : ℕ) (old new : Builder) (found : Option (Bor (List ℕ))) → rest ≡ 0x3C ∷ 0x2F ∷ tag
    → MatchOption found (new ≡ old) (λ behind. (n : ℕ) → TakesFirst (0x3C ∷ 0x2F ∷ tag) behind.now n old new) → Taken rest at old new found
end_or_none rest tag at old new None is h = h
end_or_none rest tag at old new (Some behind) is h = inl (subst (λ (x : List ℕ). TakesFirst x behind.now at old new) (sym is) (h at))

pub tag_within : (rest tag : List ℕ) (at : ℕ) → rest ≡ 0x3C ∷ tag → at + length rest ≤ 16777216 → at + length tag ≤ 16777216
tag_within rest tag at is h = omega (arith, ap length is)

pub start_or_none : (rest tag : List ℕ) (at : ℕ) (old new : Builder) (r : Result (Option (Bor (List ℕ))) DocError) → rest ≡ 0x3C ∷ tag → IfOk r (Taken (0x3C ∷ tag) at old new) → IfOk r (Taken rest at old new)
start_or_none rest tag at old new r is h = subst (λ (x : List ℕ). IfOk r (Taken x at old new)) (sym is) h

pub start_or_stops : (rest tag : List ℕ) (at : ℕ) (old : Builder) (r : Result (Option (Bor (List ℕ))) DocError) → rest ≡ 0x3C ∷ tag → IfErr r (StopsFirst (0x3C ∷ tag) at old) → IfErr r (StopsFirst rest at old)
start_or_stops rest tag at old r is h = subst (λ (x : List ℕ). IfErr r (StopsFirst x at old)) (sym is) h
