use Rattle.std.proofs.Common.{rules, map}
use Rattle.hesc_places.specs.Pages.FormTexts.{written}
use Rattle.hesc_places.proofs.Pages.GoodAttributes.{answered, good, not_good}
use Rattle.hesc_places.proofs.Pages.FormLaw.{form_again}
use Rattle.hesc_places.proofs.markup.form_builder.add_form.Goals as goal

pub returns-in-Some-clause-faults : goal.returns-in-Some-clause-faults
returns-in-Some-clause-faults g c = answered (map written c.args.attributes.now) c.in-Some.fault c.in-Some.ensures

pub returns-in-Some-clause-fits : goal.returns-in-Some-clause-fits
returns-in-Some-clause-fits g c is_good room =
    absurd (not_good (map written c.args.attributes.now) c.in-Some.fault c.in-Some.ensures is_good)

pub returns-clause-read : goal.returns-clause-read
returns-clause-read g c rest =
    form_again (map written c.args.attributes.now) c.args.script.now rest
    (good (map written c.args.attributes.now) c.in_default.ensures) c.utf8.script

pub returns-clause-good : goal.returns-clause-good
returns-clause-good g c ok = good (map written c.args.attributes.now) c.in_default.ensures

pub returns-in_err-append_parts-clause-appended : goal.returns-in_err-append_parts-clause-appended
returns-in_err-append_parts-clause-appended g c = search rules

pub returns-clause-appended : goal.returns-clause-appended
returns-clause-appended g c = c.in_ok-append_parts.ensures.appended

pub returns-clause-faults : goal.returns-clause-faults
returns-clause-faults g c = search rules
