use Rattle.std.proofs.Common.{sym, ap, ◌∙◌}
use Rattle.asn_values.proofs.Spelled.{spelled-Int, spelled-Words, spelled-Utf8}
use Rattle.asn_values.proofs.spellings.spelling.Goals as goal

pub returns-in-Some : goal.returns-in-Some
returns-in-Some c =
    let is = spelled-Words c.args.node.now c.args.value.now c.in-Words.identifiers c.in-Words.words (ap (λ l. l.form) (sym c.label.ensures) ∙ c.in-Words.is) in
    rw (is, sym c.label-in-Words.ensures, sym c.items.ensures, c.in-Some.ensures) c.copy.ensures

pub returns-in-None : goal.returns-in-None
returns-in-None c =
    let is = spelled-Words c.args.node.now c.args.value.now c.in-Words.identifiers c.in-Words.words (ap (λ l. l.form) (sym c.label.ensures) ∙ c.in-Words.is) in
    rw (is, sym c.label-in-Words.ensures, sym c.items.ensures, c.in-None.ensures) c.empty.ensures

pub returns-in-Utf8 : goal.returns-in-Utf8
returns-in-Utf8 c =
    let is = spelled-Utf8 c.args.node.now c.args.value.now c.in-Utf8.min c.in-Utf8.max c.in-Utf8.class (ap (λ l. l.form) (sym c.label.ensures) ∙ c.in-Utf8.is) in
    rw (is, sym c.label-in-Utf8.ensures) c.text_of.ensures

pub returns-in-Int : goal.returns-in-Int
returns-in-Int c =
    let is = spelled-Int c.args.node.now c.args.value.now c.in-Int.lo c.in-Int.hi (ap (λ l. l.form) (sym c.label.ensures) ∙ c.in-Int.is) in
    rw (is, sym c.label-in-Int.ensures) c.whole_text.ensures
