-- What is tested of a tag, by what stands in the code's form of it.
use Rattle.std.proofs.Common.{◌≡◌, ℕ, Bool, true, false, cond, List, [], ◌∷◌, ◌++◌, length, map, filter, refl, sym, ap, ◌∙◌, append_assoc}
use Rattle.std.specs.Prelude.{◌&&◌, ◌||◌, not, nat_le}
use Rattle.std.specs.List.{list_any}
use Rattle.xml_pieces.specs.declared.found.Attribute.{Attribute}
use Rattle.xml_pieces.specs.declared.found.Element.{Element}
use Rattle.xml_pieces.specs.Found.{tag_seen, attribute_of, bytes_of}
use Rattle.xml_pieces.specs.Namespaces.{is_long, binds, bound_prefix, bindings_of, plain_of, is_reserved, is_unbound}
use Rattle.xml_pieces.specs.QNames.{prefix_of, is_qname}
use Rattle.xml_read.specs.Contexts.{has_bad_name, has_long_name, has_reserved, has_unbound}
use Rattle.xml_pieces.proofs.Lists.{any_map, any_filter}

abbrev seen : List Attribute → List (List ℕ × List ℕ)
seen attributes = map attribute_of attributes

names_any : (p : List ℕ → Bool) (attributes : List Attribute) → list_any p (map (λ a. a.0) (seen attributes)) ≡ list_any (λ (a : Attribute). p a.name.now) attributes
names_any p attributes = any_map p (λ (a : List ℕ × List ℕ). a.0) (seen attributes) ∙ any_map (λ (a : List ℕ × List ℕ). p a.0) attribute_of attributes

bindings_any : (p : List ℕ × List ℕ → Bool) (attributes : List Attribute) → list_any p (bindings_of (seen attributes)) ≡ list_any (λ (a : Attribute). binds a.name.now && p (bound_prefix a.name.now, bytes_of a.value)) attributes
bindings_any p attributes =
    any_map p (λ (a : List ℕ × List ℕ). (bound_prefix a.0, a.1)) (filter (λ a. binds a.0) (seen attributes))
    ∙ any_filter (λ (a : List ℕ × List ℕ). p (bound_prefix a.0, a.1)) (λ a. binds a.0) (seen attributes)
    ∙ any_map (λ (a : List ℕ × List ℕ). binds a.0 && p (bound_prefix a.0, a.1)) attribute_of attributes

pub bad_is : (t : Element) (own any result : Bool) → own ≡ not (is_qname t.name.now) → any ≡ list_any (λ (a : Attribute). not (is_qname a.name.now)) t.attributes.items → result ≡ (own || any) → result ≡ has_bad_name (tag_seen t)
bad_is t own any result e f g = g ∙ rw (e, f, names_any (λ w. not (is_qname w)) t.attributes.items) refl

or_assoc : (a b c : Bool) → ((a || b) || c) ≡ (a || b || c)
or_assoc a b c = refl

pub long_is : (t : Element) (own any space result : Bool) → own ≡ is_long t.name.now → any ≡ list_any (λ (a : Attribute). is_long a.name.now) t.attributes.items
    → space ≡ list_any (λ (a : Attribute). binds a.name.now && not (nat_le (length (bytes_of a.value)) 1023)) t.attributes.items → result ≡ (own || any || space) → result ≡ has_long_name (tag_seen t)
long_is t own any space result e f g h = h ∙ rw (e, f, g, names_any is_long t.attributes.items, bindings_any (λ b. not (nat_le (length b.1) 1023)) t.attributes.items) refl

pub reserved_is : (t : Element) (result : Bool) → result ≡ list_any (λ (a : Attribute). binds a.name.now && is_reserved (bound_prefix a.name.now, bytes_of a.value)) t.attributes.items → result ≡ has_reserved (tag_seen t)
reserved_is t result e = e ∙ sym (bindings_any is_reserved t.attributes.items)

plain_any : (p : List ℕ → Bool) (attributes : List Attribute) → list_any (λ a. p (prefix_of a.0)) (plain_of (seen attributes)) ≡ list_any (λ (a : Attribute). not (binds a.name.now) && p (prefix_of a.name.now)) attributes
plain_any p attributes =
    any_filter (λ (a : List ℕ × List ℕ). p (prefix_of a.0)) (λ a. not (binds a.0)) (seen attributes)
    ∙ any_map (λ (a : List ℕ × List ℕ). not (binds a.0) && p (prefix_of a.0)) attribute_of attributes

pub unbound_is : (t : Element) (inside : List (List ℕ × List ℕ)) (own any result : Bool) → own ≡ is_unbound inside (prefix_of t.name.now)
    → any ≡ list_any (λ (a : Attribute). not (binds a.name.now) && is_unbound inside (prefix_of a.name.now)) t.attributes.items → result ≡ (own || any) → result ≡ has_unbound (tag_seen t) inside
unbound_is t inside own any result e f g = g ∙ rw (e, f, plain_any (is_unbound inside) t.attributes.items) refl

-- ---- reading attributes one after the other

kept : {A B : Type 0} (f : A → B) (q : A → Bool) (x : A) (xs : List A) (b : Bool) → q x ≡ b → map f (filter q (x ∷ xs)) ≡ cond b (f x ∷ map f (filter q xs)) (map f (filter q xs))
kept f q x xs true e = rw e refl
kept f q x xs false e = rw e refl

pub passes_over : {A B : Type 0} (f : A → B) (q : A → Bool) (x : A) (xs : List A) (all total : List B) → q x ≡ false → all ++ map f (filter q (x ∷ xs)) ≡ total → all ++ map f (filter q xs) ≡ total
passes_over f q x xs all total e h = ap (λ (r : List _). all ++ r) (sym (kept f q x xs false e)) ∙ h

pub takes_one : {A B : Type 0} (f : A → B) (q : A → Bool) (x : A) (xs : List A) (all total : List B) → q x ≡ true → all ++ map f (filter q (x ∷ xs)) ≡ total → (all ++ f x ∷ []) ++ map f (filter q xs) ≡ total
takes_one f q x xs all total e h = append_assoc all (f x ∷ []) (map f (filter q xs)) ∙ ap (λ (r : List _). all ++ r) (sym (kept f q x xs true e)) ∙ h
