use Rattle.std.proofs.Common.{◌≡◌, sym, ◌∙◌, ap, ◌==◌}
use Rattle.std.specs.Prelude.{bytes_eq}
use Rattle.std.specs.List.{list_any, slice_split}
use Rattle.asn_names.specs.ReservedWords.{reserved_words}
use Rattle.asn_names.proofs.Apart.{has-Contains, Contains-has, split_reserved}
use Rattle.asn_names.proofs.reserved.is_reserved.Goals as goal

pub returns : goal.returns
returns c =
    let name = c.args.name.now in
    let e : c.has_word.result ≡ list_any (bytes_eq name) reserved_words =
    c.has_word.ensures ∙ ap (λ ws. list_any (bytes_eq name) (slice_split (λ b. b == 0x20) ws)) c.as_bytes.ensures.value ∙ ap (list_any (bytes_eq name)) split_reserved in
    (λ t. has-Contains name reserved_words (sym e ∙ t), λ h. e ∙ Contains-has name reserved_words h)
