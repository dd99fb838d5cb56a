-- Nodes that were followed to where a page may end are templates.
use Rattle.std.proofs.Common.{◌≡◌, List, [], ◌∷◌, subst}
use Rattle.html_view.specs.Following.{Follows}
use Rattle.html_view.specs.Kept.{Before}
use Rattle.html_view.specs.Nodes as node
use Rattle.html_view.specs.Nodes.{Asked, Placed}
use Rattle.html_view.specs.Takes.{Among, Takes}
use Rattle.html_view.specs.Unrolled.{AreTemplates}
use Rattle.html_view.specs.Ways.{MayEnd, Way, first_way}
use Rattle.html_view.proofs.Followed.{all_among}
use Rattle.html_view.proofs.Sound.{ways_sound}

pub are_templates : (asked : Before Asked) (placed : Before Placed) (first ways : List Way) → first ≡ first_way ∷ [] → Follows asked placed first ways →
    ((way : Way) → Among way ways → MayEnd way) → AreTemplates (placed node.End)
are_templates asked placed first ways is follows end =
    ways_sound (placed node.End) (record {
      ways = ways;
      taken = subst (λ w. Takes w (placed node.End) ways) is (follows.takes node.End ways (all_among ways));
      end = end;
    })
