-- Bindings in scope, as they are entered, left and found.
use Rattle.std.proofs.Common.{◌≡◌, ℕ, ◌+◌, ◌-◌, ◌<◌, Bool, true, false, cond, List, [], ◌∷◌, ◌++◌, length, map, take, reverse, get_or, Option, Some, None, Bor, refl, sym, ap, subst, ◌∙◌, arith, nat_cmp}
use Rattle.std.specs.Prelude.{bytes_eq}
use Rattle.std.specs.Cmp.Lexicographic.{slice_cmp}
use Rattle.std.specs.BTreeMap.{BTreeMap, get_by, UpdatesBy}
use Rattle.std.proofs.lemmas.List.{length-reverse, length-take-le, take-take, reverse-append, reverse-reverse}
use Rattle.std.proofs.lemmas.Slice.Eq.{bytes_eq-Decides}
use Rattle.std.proofs.lemmas.Map.Text.{btree_map_updates_str}
use Rattle.std.proofs.Math.ListN.{get_or-append}
use Rattle.std.proofs.Math.Seq.{get_or-append_seam}
use Rattle.base_texts.specs.Entries.{beside}
use Rattle.xml_pieces.specs.declared.scope.Binding.{Binding}
use Rattle.xml_pieces.specs.Private.Scopes.{bound, place_of, Hides, Indexed}

abbrev pub place_in : BTreeMap (Bor (List ℕ)) ℕ → List ℕ → Option ℕ
place_in m prefix = get_by (λ key. slice_cmp nat_cmp prefix key.now) m

abbrev pub Puts : BTreeMap (Bor (List ℕ)) ℕ → BTreeMap (Bor (List ℕ)) ℕ → List ℕ → Option ℕ → Type 0
Puts old new prefix place = UpdatesBy (λ x y. slice_cmp nat_cmp x.now y.now) (λ key. slice_cmp nat_cmp prefix key.now) old new place

turned : (bs : List Binding) (b : Binding) → reverse (bs ++ b ∷ []) ≡ b ∷ reverse bs
turned bs b = reverse-append bs (b ∷ [])

turn : (b : Binding) (outer : List Binding) → reverse (b ∷ outer) ≡ reverse outer ++ b ∷ []
turn b outer = reverse-append (b ∷ []) outer

-- ---- found

some_is : (a b : ℕ) → Some a ≡ Some b → a ≡ b
some_is a b e = cc

within_or : (t : Bool) (prefix : List ℕ) (b : Binding) (outer : List Binding) (i : ℕ) → (place_of prefix outer ≡ Some i → i < length outer) → cond t (Some (length outer)) (place_of prefix outer) ≡ Some i → i < length (b ∷ outer)
within_or true prefix b outer i h e = omega (arith, some_is (length outer) i e)
within_or false prefix b outer i h e = omega (arith, h e)

within : (prefix : List ℕ) (bs : List Binding) (i : ℕ) → place_of prefix bs ≡ Some i → i < length bs
within prefix [] i e = absurd cc
within prefix (b ∷ outer) i e = within_or (bytes_eq b.prefix.now prefix) prefix b outer i (within prefix outer i) e

-- the binding at a place has the namespace of the prefix
abbrev Stands : List ℕ → List Binding → ℕ → Binding → Type 0
Stands prefix bs i d = beside prefix (map bound bs) ≡ Some (get_or (reverse bs) i d).space

at_front : (prefix : List ℕ) (b : Binding) (outer : List Binding) (i : ℕ) (d : Binding) → bytes_eq b.prefix.now prefix ≡ true → i ≡ length outer → Stands prefix (b ∷ outer) i d
at_front prefix b outer i d e is =
    let here : get_or (reverse (b ∷ outer)) i d ≡ b = ap (λ (n : ℕ). get_or (reverse (b ∷ outer)) n d) (is ∙ sym (length-reverse outer)) ∙ ap (λ (xs : List Binding). get_or xs (length (reverse outer)) d) (turn b outer) ∙ get_or-append_seam (reverse outer) b [] d in
    rw (e, here) refl

further : (prefix : List ℕ) (b : Binding) (outer : List Binding) (i : ℕ) (d : Binding) → bytes_eq b.prefix.now prefix ≡ false → i < length outer → Stands prefix outer i d → Stands prefix (b ∷ outer) i d
further prefix b outer i d e short s =
    let lt : i < length (reverse outer) = omega (arith, short, length-reverse outer) in
    let here : get_or (reverse (b ∷ outer)) i d ≡ get_or (reverse outer) i d = ap (λ (xs : List Binding). get_or xs i d) (turn b outer) ∙ get_or-append (reverse outer) (b ∷ []) d i lt in
    rw (e, here) s

either : (prefix : List ℕ) (b : Binding) (outer : List Binding) (i : ℕ) (d : Binding) (t : Bool) → bytes_eq b.prefix.now prefix ≡ t → (place_of prefix outer ≡ Some i → Stands prefix outer i d) → cond t (Some (length outer)) (place_of prefix outer) ≡ Some i → Stands prefix (b ∷ outer) i d
either prefix b outer i d true e h is = at_front prefix b outer i d e (sym (some_is (length outer) i is))
either prefix b outer i d false e h is = further prefix b outer i d e (within prefix outer i is) (h is)

stands : (prefix : List ℕ) (bs : List Binding) (i : ℕ) (d : Binding) → place_of prefix bs ≡ Some i → Stands prefix bs i d
stands prefix [] i d e = absurd cc
stands prefix (b ∷ outer) i d e = either prefix b outer i d (bytes_eq b.prefix.now prefix) refl (stands prefix outer i d) e

none_or : (t : Bool) (n : ℕ) (s : List ℕ) (o : Option ℕ) (p : Option (List ℕ)) → (o ≡ None → p ≡ None) → cond t (Some n) o ≡ None → cond t (Some s) p ≡ None
none_or true n s o p h e = absurd cc
none_or false n s o p h e = h e

missing : (prefix : List ℕ) (bs : List Binding) → place_of prefix bs ≡ None → beside prefix (map bound bs) ≡ None
missing prefix [] e = refl
missing prefix (b ∷ outer) e = none_or (bytes_eq b.prefix.now prefix) (length outer) b.space (place_of prefix outer) (beside prefix (map bound outer)) (missing prefix outer) e

map-end : (xs : List Binding) (b : Binding) → map bound (xs ++ b ∷ []) ≡ map bound xs ++ bound b ∷ []
map-end [] b = refl
map-end (x ∷ xs) b = ap (λ (ys : List (List ℕ × List ℕ)). bound x ∷ ys) (map-end xs b)

map-turned : (bs : List Binding) → reverse (map bound bs) ≡ map bound (reverse bs)
map-turned [] = refl
map-turned (b ∷ bs) =
    reverse-append (bound b ∷ []) (map bound bs) ∙ ap (λ (x : List (List ℕ × List ℕ)). x ++ bound b ∷ []) (map-turned bs)
    ∙ sym (ap (map bound) (turn b bs) ∙ map-end (reverse bs) b)

pub found_within : (prefix : List ℕ) (bs : List Binding) (m : BTreeMap (Bor (List ℕ)) ℕ) (i : ℕ) → Indexed bs m → place_in m prefix ≡ Some i → i < length bs
found_within prefix bs m i indexed e = omega (arith, within prefix (reverse bs) i (sym (indexed.found prefix) ∙ e), length-reverse bs)

pub found_space : (prefix : List ℕ) (bs : List Binding) (m : BTreeMap (Bor (List ℕ)) ℕ) (i : ℕ) (x : Binding) → Indexed bs m → place_in m prefix ≡ Some i → x ≡ get_or bs i x → Some x.space ≡ beside prefix (reverse (map bound bs))
found_space prefix bs m i x indexed e is =
    let here : Some x.space ≡ Some (get_or (reverse (reverse bs)) i x).space = rw (reverse-reverse bs) (ap (λ (b : Binding). Some b.space) is) in
    here ∙ sym (stands prefix (reverse bs) i x (sym (indexed.found prefix) ∙ e)) ∙ ap (beside prefix) (sym (map-turned bs))

pub not_found : (prefix : List ℕ) (bs : List Binding) (m : BTreeMap (Bor (List ℕ)) ℕ) → Indexed bs m → place_in m prefix ≡ None → None ≡ beside prefix (reverse (map bound bs))
not_found prefix bs m indexed e = sym (missing prefix (reverse bs) (sym (indexed.found prefix) ∙ e)) ∙ ap (beside prefix) (sym (map-turned bs))

-- ---- entered

pub entered : (bs all : List Binding) (old new : BTreeMap (Bor (List ℕ)) ℕ) (b : Binding) (place : ℕ) → Indexed bs old → all ≡ bs ++ b ∷ [] → b.hidden ≡ place_in old b.prefix.now → place ≡ length bs → Puts old new b.prefix.now (Some place) → Indexed all new
entered bs all old new b place indexed is hidden place_is puts =
    let back : reverse all ≡ b ∷ reverse bs = ap reverse is ∙ turned bs b in
    let at : place ≡ length (reverse bs) = place_is ∙ sym (length-reverse bs) in
    record {
      found = λ prefix. btree_map_updates_str b.prefix.now old new (Some place) puts prefix
          ∙ rw (indexed.found prefix, at) refl
          ∙ ap (place_of prefix) (sym back);
      hides = subst Hides (sym back) (hidden ∙ indexed.found b.prefix.now, indexed.hides);
    }

-- ---- left

left_found : (t : Bool) (b : Binding) (outer : List Binding) (prefix : List ℕ) → bytes_eq b.prefix.now prefix ≡ t → b.hidden ≡ place_of b.prefix.now outer → cond t b.hidden (cond t (Some (length outer)) (place_of prefix outer)) ≡ place_of prefix outer
left_found true b outer prefix e hidden = hidden ∙ ap (λ (p : List ℕ). place_of p outer) ((bytes_eq-Decides b.prefix.now prefix).0 e)
left_found false b outer prefix e hidden = refl

module _ (bs all : List Binding) (old new : BTreeMap (Bor (List ℕ)) ℕ) (b : Binding) (prefix : Bor (List ℕ)) (hidden : Option ℕ) where
  pub left : Indexed all old → all ≡ bs ++ b ∷ [] → prefix ≡ b.prefix → hidden ≡ b.hidden → Puts old new prefix.now hidden → Indexed bs new
  left indexed is prefix_is hidden_is puts =
      let back : reverse all ≡ b ∷ reverse bs = ap reverse is ∙ turned bs b in
      let hides : Hides (b ∷ reverse bs) = subst Hides back indexed.hides in
      let same : Puts old new b.prefix.now b.hidden = rw (← prefix_is, ← hidden_is) puts in
      record {
        found = λ q. btree_map_updates_str b.prefix.now old new b.hidden same q
            ∙ ap (λ (o : Option ℕ). cond (bytes_eq b.prefix.now q) b.hidden o) (indexed.found q ∙ ap (place_of q) back)
            ∙ left_found (bytes_eq b.prefix.now q) b (reverse bs) q refl hides.0;
        hides = hides.1;
      }

  -- the innermost binding is found
  pub there : Indexed all old → all ≡ bs ++ b ∷ [] → prefix ≡ b.prefix → place_in old prefix.now ≡ Some (length (reverse bs))
  there indexed is prefix_is =
      let same : bytes_eq b.prefix.now b.prefix.now ≡ true = (bytes_eq-Decides b.prefix.now b.prefix.now).1 refl in
      ap (λ (p : Bor (List ℕ)). place_in old p.now) prefix_is ∙ indexed.found b.prefix.now ∙ ap (place_of b.prefix.now) (ap reverse is ∙ turned bs b) ∙ rw same refl

-- ---- one binding more is left

pub one_more : (xs : List (List ℕ × List ℕ)) (k : ℕ) → take (length (take (length xs - k) xs) - 1) (take (length xs - k) xs) ≡ take (length xs - (k + 1)) xs
one_more xs k =
    let long : length (take (length xs - k) xs) ≡ length xs - k = length-take-le (length xs - k) xs (omega arith) in
    let less : length (take (length xs - k) xs) - 1 ≡ length xs - (k + 1) = omega (arith, long) in
    ap (λ (n : ℕ). take n (take (length xs - k) xs)) less ∙ take-take (length xs - (k + 1)) (length xs - k) xs (omega arith)
