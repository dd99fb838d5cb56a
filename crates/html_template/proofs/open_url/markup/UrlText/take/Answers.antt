use Rattle.std.proofs.Common.{◌≡◌, ◌≢◌, ◌+◌, length, ne_eqb, sym, ◌∙◌, arith}
use Rattle.html_template.proofs.Markup.{kept_takes, stands_takes}
use Rattle.html_template.proofs.open_url.markup.UrlText.take.Goals as goal
use Rattle.html_template.proofs.open_url.markup.UrlText.take.Goals.{then-byte-eq35+else-start-len, else-byte-eq35}

pub returns-in_ok-add-in-None : goal.returns-in_ok-add-in-None
returns-in_ok-add-in-None g c =
    rw (c.in-None.is, c.in_ok-add-in-None.ensures.ampersand, c.in_ok-add-in-None.ensures.text)
    (kept_takes c.args.self.now.text.items c.args.byte (ne_eqb c.args.byte 38 c.if-byte-eq38.false))

pub returns-in_ok-add-in-Some-4 : goal.returns-in_ok-add-in-Some-4
returns-in_ok-add-in-Some-4 g c =
    let no_sign : c.args.byte ≡ 35 → c.in-Some.start + 1 ≢ length c.args.self.now.text.items =
    λ sign same. elim c.if-byte-eq35.branch [
      | then-byte-eq35+else-start-len w ↦
          let one : c.in-Some.start ≡ c.in-Some-3.start = cc (c.in-Some.is, c.in-Some-3.is) in
          absurd (omega (arith, one))
      | else-byte-eq35 w ↦ absurd (omega arith)
    ] in
    rw (c.in-Some.is, c.in_ok-add-in-Some-4.ensures.ampersand, c.in_ok-add-in-Some-4.ensures.text)
    (stands_takes c.args.self.now.text.items c.args.byte c.in-Some.start (sym c.is_ascii_alphanumeric.ensures.value ∙ c.if-is_ascii_alphanumeric.false) c.if-byte-eq59.false no_sign
    (ne_eqb c.args.byte 38 c.if-byte-eq38.false))
