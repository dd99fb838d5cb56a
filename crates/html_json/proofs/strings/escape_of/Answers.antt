use Rattle.std.proofs.Common.{◌≡◌, sym, ap, ◌∙◌, arith, rules}
use Rattle.hesc_specs.specs.Text.Ascii.{less_than}
use Rattle.html_json.specs.Strings.{content_image}
use Rattle.html_json.proofs.Quoted.{less_image, letter_image, number_image}
use Rattle.html_json.proofs.strings.escape_of.Goals as goal

pub returns-then-byte-eq60 : goal.returns-then-byte-eq60
returns-then-byte-eq60 c =
    let same : c.args.byte ≡ less_than = search (rules, arith) in
    c.from_ascii.ensures ∙ sym less_image ∙ ap content_image (sym same)

pub returns-then-letter-gt0 : goal.returns-then-letter-gt0
returns-then-letter-gt0 c =
    c.from_ascii-then-letter-gt0.ensures ∙ rw c.letter_of-letter.ensures.value (sym (letter_image c.args.byte c.requires (search (rules, arith))))

pub returns : goal.returns
returns c =
    c.from_ascii-2.ensures
    ∙ rw (c.hex-high.ensures.value, c.hex-low.ensures.value) (sym (number_image c.args.byte c.requires (search rules) (search (rules, arith))))
