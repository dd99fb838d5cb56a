use Rattle.std.proofs.Common.{rules, refl}
use Rattle.hesc_places.proofs.Places.EnclosedTexts.{enclosed_is_read}
use Rattle.hesc_places.proofs.place.enclosing.add_enclosed.Goals as goal

pub returns-clause-read : goal.returns-clause-read
returns-clause-read g c =
    let stands = c.in_ok-check_place.ensures.ok.0 refl in
    enclosed_is_read c.args.encoder c.args.place stands.0 c.args.text.now c.utf8.text stands.1

pub returns-in_err-append_parts-clause-appended : goal.returns-in_err-append_parts-clause-appended
returns-in_err-append_parts-clause-appended g c = search rules

pub returns-clause-appended : goal.returns-clause-appended
returns-clause-appended g c = c.in_ok-append_parts.ensures.appended
