use Rattle.std.proofs.Common.{◌≡◌, true, false, Err, ◌++◌, ◌+◌, [], ◌∷◌, take, get_or, sym, ap, ◌∙◌}
use Rattle.std.specs.List.{list_all}
use Rattle.std.specs.Str.{is_utf8}
use Rattle.std.proofs.lemmas.Bool.{false_from_ne_true}
use Rattle.std.proofs.lemmas.List.{take_more}
use Rattle.std.proofs.lemmas.List.Folds.{list_all_at}
use Rattle.std.proofs.lemmas.Str.{IsUtf8-from_is_utf8, is_utf8-from_IsUtf8}
use Rattle.module_pieces.proofs.XmlTexts.{utf8-push}
use Rattle.module_pieces.proofs.words.words_of.Goals as goal

pub returns-in-Err-NotUtf8 : goal.returns-in-Err-NotUtf8
returns-in-Err-NotUtf8 c =
    let written = c.as_slice-written.result.now in
    let i = c.words.word-index in
    let bytes = c.bytes.result.now in
    let never = c.in-Err-NotUtf8.ensures.not_utf8 (ap Err c.in-Err-NotUtf8.field-0-is) in
    let bad : is_utf8 bytes ≡ false = false_from_ne_true (is_utf8 bytes) (λ e. never (IsUtf8-from_is_utf8 bytes e)) in
    let here : is_utf8 (get_or written i c.word-item.result) ≡ false = ap is_utf8 (sym c.word-item.is ∙ sym c.bytes.ensures) ∙ bad in
    ap (list_all is_utf8) (sym c.in_ok-written.ensures ∙ sym c.as_slice-written.ensures.value)
    ∙ list_all_at is_utf8 written i c.word-item.result c.words-test.true here

pub words-preserved : goal.words-preserved
words-preserved c =
    let written = c.as_slice-written.result.now in
    let i = c.words.word-index in
    let word = c.in-Ok.word in
    let is = c.in-Ok.ensures.ok.0 ∙ c.bytes.ensures ∙ c.word-item.is in (
      c.in_ok-push-in-Ok.ensures.items
          ∙ ap (λ xs. xs ++ word ∷ []) c.words.invariant.0
          ∙ ap (λ w. take i written ++ w ∷ []) is
          ∙ sym (take_more written i c.word-item.result c.words-test.true),
      ap (list_all is_utf8) c.in_ok-push-in-Ok.ensures.items
          ∙ utf8-push c.words.words.items word c.words.invariant.1
          (ap is_utf8 c.in-Ok.ensures.ok.0 ∙ is_utf8-from_IsUtf8 c.bytes.result.now c.in-Ok.ensures.ok.1),
    )
