use Rattle.std.proofs.Common.{◌++◌, ap, sym, ◌∙◌}
use Rattle.module_print.specs.Notation.{hexadecimal, fixed_range}
use Rattle.module_print.proofs.Texts.{fixed-written}
use Rattle.module_print.proofs.notation.write_fixed.Goals as goal

pub returns-in_ok-extend_from_slice-in-Fixed-2 : goal.returns-in_ok-extend_from_slice-in-Fixed-2
returns-in_ok-extend_from_slice-in-Fixed-2 c =
    let old = c.args.out.now.items in
    let begun = c.extend_from_slice.new.self.items in
    fixed-written old (hexadecimal c.in-Fixed.text) begun c.write_hexadecimal.new.out.items c.extend_from_slice-in-Fixed.new.self.items
    c.in_ok-extend_from_slice-in-Fixed.ensures.items
    (c.in_ok-write_hexadecimal-in-Fixed.ensures ∙ ap (λ octets. begun ++ hexadecimal octets) c.bytes.ensures.bytes)
    c.in_ok-extend_from_slice-in-Fixed-2.ensures.items
    ∙ ap (λ standard. old ++ fixed_range standard) (sym c.in-Fixed.is)
