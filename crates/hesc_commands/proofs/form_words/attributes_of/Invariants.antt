use Rattle.std.proofs.Common.{◌≡◌, ◌++◌, true, flat_map, length, map}
use Rattle.hesc_places.specs.Pages.FormTexts.{written}
use Rattle.hesc_commands.specs.FormWords.{attribute_words, name_attributes}
use Rattle.hesc_commands.proofs.form_words.attributes_of.Given as goal

-- the words of the attributes so far, and the rest, are all words, and the rest names attributes
abbrev pub invariant-attributes : goal.invariant-attributes
invariant-attributes g l = record {
  named : name_attributes (map (λ word. word.now) l.rest) ≡ true;
  known : flat_map attribute_words (map written l.attributes.items) ++ map (λ word. word.now) l.rest
      ≡ map (λ word. word.now) l.form.attributes.now;
}

abbrev pub decreases-attributes : goal.decreases-attributes
decreases-attributes g l = length l.rest
