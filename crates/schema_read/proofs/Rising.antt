-- The components of each kind stand in the order written, and between the places of a document.
use Rattle.std.proofs.Common.{true, ◌≡◌, ℕ, ◌+◌, ◌≤◌, List, [], ◌++◌, length, map, sym, subst, arith, ◌&&◌}
use Rattle.schema_read.proofs.Words.{and_from, map-append, length-map, Local, ascend, element_place, attribute_place, type_place, local_place, all_ascend, ElementRole, Settings, Parts}
use Rattle.schema_components.specs.Raw as raw
use Rattle.schema_read.proofs.RisingPlaces.{Rise, rise_le, rise_lower, rise_append, rise_ascend, rise_length}
use Rattle.schema_read.proofs.Reading.{Reading, of_bases, of_parts, Around, Extent, Fact, Site, Rules}

pub record Rises (least end : ℕ) (r : Reading) : Type 0 where
  pub elements : Rise least end (map element_place r.elements)
  pub attributes : Rise least end (map attribute_place r.attributes)
  pub types : Rise least end (map type_place r.types)
  pub locals : Rise least end (map local_place r.locals)

abbrev pub Rising : Around → Extent → ℕ → Reading → Type 0
Rising around e n r = Rises e.least e.end r

rise_both : {X : Type 0} (place : X → ℕ) (least middle end : ℕ) (xs ys : List X) → Rise least middle (map place xs) → Rise middle end (map place ys) → Rise least end (map place (xs ++ ys))
rise_both place least middle end xs ys h g = subst (Rise least end) (sym (map-append place xs ys)) (rise_append least middle end (map place xs) (map place ys) h g)

-- nothing that has a place in the order
flat : (least end : ℕ) → least ≤ end → Rises least end (of_bases raw.none)
flat least end le = record { elements = le; attributes = le; types = le; locals = le }

local_rise : (less least end : ℕ) (locals : List Local) → less ≤ least → Rise least end (map local_place locals) → Rises less end (of_parts [] [] [] locals)
local_rise less least end ls le h =
    let k = rise_le least end (map local_place ls) h in
    let wide : less ≤ end = omega (arith, le, k) in
    record { elements = wide; attributes = wide; types = wide; locals = rise_lower less least end (map local_place ls) le h }

lowered : (s : Site) → s.least ≤ s.at → (ls : List Local) → Rise (s.at + 1) s.end (map local_place ls) → Rises s.least s.end (of_parts [] [] [] ls)
lowered s from ls h = local_rise s.least (s.at + 1) s.end ls (omega (arith, from)) h

around_it : (s : Site) (role : ElementRole) → Fact role s → s.least ≤ s.end
around_it s role fact = let from = fact.from in let upto = fact.upto in omega (arith, from, upto)

at_place : (s : Site) (place : ℕ) → place ≡ s.at → s.least ≤ s.at → s.at + 1 ≤ s.end → (s.least ≤ place) × (place + 1 ≤ s.end)
at_place s place same from upto = (omega (arith, same, from), omega (arith, same, upto))

pub rising_rules : (said : Settings) → Rules said Rising
rising_rules said =
    record {
      nothing_read = λ around least end n counted le. flat least end le;
      both = λ around least middle end n xs ys a b h g.
          record {
            elements = rise_both element_place least middle end a.elements b.elements h.elements g.elements;
            attributes = rise_both attribute_place least middle end a.attributes b.attributes h.attributes g.attributes;
            types = rise_both type_place least middle end a.types b.types h.types g.types;
            locals = rise_both local_place least middle end a.locals b.locals h.locals g.locals;
          };
      lower = λ around less least end n counted a le h.
          record {
            elements = rise_lower less least end (map element_place a.elements) le h.elements;
            attributes = rise_lower less least end (map attribute_place a.attributes) le h.attributes;
            types = rise_lower less least end (map type_place a.types) le h.types;
            locals = rise_lower less least end (map local_place a.locals) le h.locals;
          };
      more_named = λ around e n reference bases h. record { elements = h.elements; attributes = h.attributes; types = h.types; locals = h.locals };
      first_base = λ around e n base bases h. record { elements = h.elements; attributes = h.attributes; types = h.types; locals = h.locals };
      restriction = λ s base fact h. let f = lowered s fact.from [] h.locals in record { elements = f.elements; attributes = f.attributes; types = f.types; locals = f.locals };
      list = λ s base fact h. let f = lowered s fact.from [] h.locals in record { elements = f.elements; attributes = f.attributes; types = f.types; locals = f.locals };
      union = λ s fact h. let f = lowered s fact.from [] h.locals in record { elements = f.elements; attributes = f.attributes; types = f.types; locals = f.locals };
      simple = λ role s body_at how fact h. let f = lowered s fact.from [] h.locals in record { elements = f.elements; attributes = f.attributes; types = f.types; locals = f.locals };
      reference_use = λ role s name fact. let f = around_it s role fact in record { elements = f; attributes = f; types = f; locals = f };
      declared_use = λ role s base is fact unnamed h. let f = around_it s role fact in record { elements = f; attributes = f; types = f; locals = f };
      named_kind = λ around least end n counted reference le. record { elements = le; attributes = le; types = le; locals = le };
      simple_kind = λ around e n body h. record { elements = h.elements; attributes = h.attributes; types = h.types; locals = h.locals };
      complex_kind = λ role s uses ts ls written is fact deep by h. let f = lowered s fact.from ls h.locals in record { elements = f.elements; attributes = f.attributes; types = f.types; locals = f.locals };
      reference = λ role s name fact. let f = around_it s role fact.fact in record { elements = f; attributes = f; types = f; locals = (fact.fact.from, fact.fact.upto) };
      own_element = λ role s kind ls fact unnamed h. let f = around_it s role fact.fact in record { elements = f; attributes = f; types = f; locals = (fact.fact.from, h.locals) };
      group = λ role s ts ls fact some h. let f = lowered s fact.fact.from ls h.locals in record { elements = f.elements; attributes = f.attributes; types = f.types; locals = f.locals };
      element = λ s kind ls fact deep h. let f = lowered s fact.from ls h.locals in record { elements = (fact.from, fact.upto); attributes = f.attributes; types = f.types; locals = f.locals };
      attribute = λ s fact h. let f = lowered s fact.from [] h.locals in record { elements = f.elements; attributes = (fact.from, fact.upto); types = f.types; locals = f.locals };
      simple_type = λ s body fact same h. record { elements = h.elements; attributes = h.attributes; types = at_place s body.at same fact.from fact.upto; locals = h.locals };
      complex_type = λ s body ls fact same h. record { elements = h.elements; attributes = h.attributes; types = at_place s body.at same fact.from fact.upto; locals = h.locals };
    }

pub few_locals : (least end : ℕ) (p : Parts) → Rises least end (of_parts p.elements p.attributes p.types p.locals) → least + length p.locals ≤ end
few_locals least end p h =
    let same : length (map local_place p.locals) ≡ length p.locals = length-map p.locals local_place in
    let k = rise_length least end (map local_place p.locals) h.locals in
    omega (arith, same, k)

pub parts_ascend : (least end : ℕ) (p : Parts) → Rises least end (of_parts p.elements p.attributes p.types p.locals) → all_ascend p.elements p.attributes p.types p.locals ≡ true
parts_ascend least end p h =
    let a = ascend (map attribute_place p.attributes) in
    let t = ascend (map type_place p.types) in
    let l = ascend (map local_place p.locals) in
    and_from (ascend (map element_place p.elements)) (a && (t && l)) (rise_ascend least end (map element_place p.elements) h.elements)
    (and_from a (t && l) (rise_ascend least end (map attribute_place p.attributes) h.attributes)
    (and_from t l (rise_ascend least end (map type_place p.types) h.types) (rise_ascend least end (map local_place p.locals) h.locals)))
