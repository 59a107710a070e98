use Rattle.std.proofs.Common.{◌≡◌, ◌<◌, ◌++◌, [], ◌∷◌, arith, ap, length, sym, ◌∙◌, string_bytes, Some}
use Rattle.std.proofs.lemmas.Bool.Decides.{nat_tests}
use Rattle.std.proofs.lemmas.List.{append-nil, map-id}
use Rattle.std.proofs.lemmas.Result.{IfOk-weaker}
use Rattle.std.proofs.lemmas.Str.{encode_ascii}
use Rattle.std.specs.Prelude.{if◌then◌else◌}
use Rattle.std.specs.Str.{chars}
use Rattle.std.proofs.lemmas.Iterator.{YieldsList-from_chars}
use Rattle.std.proofs.lemmas.Iterator.Consumers.{YieldsList-end}
use Rattle.asn_names.specs.Conversion.{kept, converted}
use Rattle.asn_names.proofs.Converting.{ends, kept-ascii, ends-none, ends-hyphen, ends-first, ends-further, ends-done, pushed_apart, pushed, only_x, one_more, no_hyphen}
use Rattle.asn_names.proofs.conversion.convert.Goals as goal
use Rattle.asn_names.proofs.conversion.convert.Goals.{then-is_apart+in_ok-push-in-Some-2, else-is_apart, then-is_empty-2+in_ok-push, else-is_empty-2}

pub characters-preserved-in-None-kept : goal.characters-preserved-in-None-kept
characters-preserved-in-None-kept c = λ cs. one_more _ _ _ cs _ _ _ _ c.characters.invariant (ends-none _ _ _ _ cs (sym c.kept.ensures ∙ c.in-None-kept.is))

pub characters-preserved-in-Some-eq45 : goal.characters-preserved-in-Some-eq45
characters-preserved-in-Some-eq45 c = λ cs.
    one_more _ _ _ cs _ _ _ _ c.characters.invariant (ends-hyphen _ _ _ _ cs (sym c.kept.ensures ∙ c.in-Some-eq45.is ∙ ap (λ d. Some d) c.in-Some-eq45.field-0-test))

pub begin-requires : goal.begin-requires
begin-requires c = kept-ascii c.in-Some.c _ (sym c.kept.ensures ∙ c.in-Some-kept.is)

pub characters-preserved-then-is_empty : goal.characters-preserved-then-is_empty
characters-preserved-then-is_empty c = λ cs.
    let made = string_bytes c.characters.made in
    let ok = c.characters.made.bytes.ok in
    let none : length made ≡ 0 = grind (arith, nat_tests, ok) in
    one_more _ _ _ cs made _ _ _ c.characters.invariant
    (ends-first _ made _ _ _ c.in-Some-kept.c cs none (sym c.kept.ensures ∙ c.in-Some-kept.is) (no_hyphen _ c.in-Some-kept.c-test.1) c.in_ok-begin-in-Some-kept.ensures)

pub characters-preserved : goal.characters-preserved
characters-preserved c = λ cs.
    let made = string_bytes c.characters.made in
    let ok = c.characters.made.bytes.ok in
    let d = c.in-Some-kept.c in
    let kept_is : kept c.in-Some.c ≡ Some d = sym c.kept.ensures ∙ c.in-Some-kept.is in
    let some : 0 < length made = grind (arith, nat_tests, ok) in
    let mid = string_bytes c.if-is_apart.made in
    let put : string_bytes c.push-in-Some-2.new.self ≡ mid ++ d ∷ [] = c.in_ok-push-in-Some-2-2.ensures.bytes ∙ ap (λ l. mid ++ l) (encode_ascii d (kept-ascii _ d kept_is)) in
    let out : string_bytes c.push-in-Some-2.new.self ≡ made ++ (if c.characters.is_apart then 0x2D ∷ d ∷ [] else d ∷ []) = elim c.if-is_apart.branch [
      | then-is_apart+in_ok-push-in-Some-2 w ↦ pushed_apart c.characters.is_apart made mid _ d w.if-is_apart.true (ap (λ s. string_bytes s) w.made-is ∙ w.in_ok-push-in-Some-2.ensures.bytes ∙ ap (λ l. made ++ l) (encode_ascii 0x2D (omega arith))) put
      | else-is_apart w ↦ pushed c.characters.is_apart made mid _ d w.if-is_apart.false (ap (λ s. string_bytes s) w.made-is) put
    ] in
    one_more _ _ _ cs made _ _ _ c.characters.invariant (ends-further _ made _ _ _ d cs some kept_is (no_hyphen d c.in-Some-kept.c-test.1) out)

pub returns : goal.returns
returns c =
    let kind = c.args.kind in
    let made = string_bytes c.characters.made in
    let ok = c.characters.made.bytes.ok in
    let t = YieldsList-end (YieldsList-from_chars c.args.name.now c.bytes.ensures.utf8 cc) c.characters.yielded _ c.characters.yielded_by _ _ c.in-None.is c.next.ensures.steps in
    let all : c.characters.yielded ≡ chars c.args.name.now = sym (map-id c.characters.yielded) ∙ t.0 in
    let done : converted kind c.characters.yielded ≡ ends kind made c.characters.is_apart [] = ap (converted kind) (sym (append-nil c.characters.yielded)) ∙ c.characters.invariant [] in
    let final : string_bytes c.if-is_empty-2.made ≡ ends kind made c.characters.is_apart [] = elim c.if-is_empty-2.branch [
      | then-is_empty-2+in_ok-push w ↦
          let none : length made ≡ 0 = grind (arith, nat_tests, ok) in
          only_x kind made _ c.characters.is_apart w.letter_x.result none w.letter_x.ensures (ap (λ s. string_bytes s) w.made-is ∙ w.in_ok-push.ensures.bytes)
      | else-is_empty-2 w ↦
          let some : 0 < length made = grind (arith, nat_tests, ok) in
          ap (λ s. string_bytes s) w.made-is ∙ sym (ends-done kind made c.characters.is_apart some)
    ] in
    let chars_made : string_bytes c.if-is_empty-2.made ≡ converted kind (chars c.args.name.now) = final ∙ sym done ∙ ap (converted kind) all in
    IfOk-weaker c.from_string.result _ _ (λ made' is. is ∙ chars_made) c.from_string.ensures
