-- The words of contracts, from one place.
pub use Rattle.html_urls.specs.Bases.{FillBehind, IsWebPage, given_behind, goes_on_so, is_base, is_own_base}
pub use Rattle.html_urls.specs.Components.{component, component_at}
pub use Rattle.html_urls.specs.Decoded.{decoded_segments, pairs_of, query_pairs}
pub use Rattle.html_urls.specs.Heads.{head_of}
pub use Rattle.html_urls.specs.Links.{HasLinkOrPageScheme, HasLinkScheme, is_link}
pub use Rattle.html_urls.specs.OwnPaths.{is_own_path}
pub use Rattle.html_urls.specs.Pieces.{filled_pieces, pieces}
pub use Rattle.html_urls.specs.Shapes.{HasShape, Shape, filled, fragment_parts, path_parts, query_parts, shape_of}
pub use Rattle.html_urls.specs.Slots.{FillSlots, FillUrl, given, may_fill, slots_of, url_of}
