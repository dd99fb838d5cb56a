-- The head of a URL that begins with a base is that of the base alone.
use Rattle.std.proofs.Common.{◌≡◌, ◌≢◌, ℕ, true, false, ◌==◌, List, [], ◌∷◌, ◌++◌, Option, Ok, codes, All, refl, sym, ap, ◌∙◌, subst, append_assoc, append-nil, arith, get_or}
use Rattle.std.proofs.lemmas.Bool.Decides.{nat_tests}
use Rattle.std.proofs.lemmas.Bool.{both_ways}
use Rattle.std.proofs.lemmas.List.Elements.{All-append, All-cons, All-nil, All-tail, All-weaker}
use Rattle.url.specs.declared.scheme.SchemeType.TheVariants.{SpecialNotFile}
use Rattle.url.specs.Input.{lowercase, split_once}
use Rattle.url.specs.Parser.{Parsed, and_then, parse_authority, parse_by_scheme, parse_parts, parse_url, split_scheme, with_path, with_tail}
use Rattle.url.specs.Path.{parse_path, parse_path_start}
use Rattle.url.specs.Parts.{Parts}
use Rattle.url.specs.Scheme.{scheme_len}
use Rattle.url.proofs.HostLemmas.{none_from_list_any}
use Rattle.html_urls.specs.declared.base.BehindBase.{BehindBase}
use Rattle.html_urls.specs.declared.base.BehindBase.TheVariants.{Slash, Tail, Segment}
use Rattle.html_urls.specs.declared.open_part.OpenPart.TheVariants.{NewSegment}
use Rattle.html_urls.specs.Bases.{IsWebPage, goes_on_so, is_base}
use Rattle.html_urls.specs.Heads.{head_of}
use Rattle.html_urls.specs.Hosts.{IsWebBase}
use Rattle.html_urls.specs.Inputs.{IsNot, IsVisible}
use Rattle.html_urls.specs.OpenParts.{after_front, has_byte}
use Rattle.html_urls.specs.Shapes.{fill, front_of, shape_from}
use Rattle.html_urls.specs.Slots.{FillUrl, Given, Markup, is_plain_byte, url_of}
use Rattle.html_urls.proofs.Bases.Ends.{IsBase, base_is, no_fragment_in, no_query_in}
use Rattle.html_urls.proofs.Bases.Opened.{BaseText, TailBegins, asks, is_below, marks, nothing, of_web, own, rooted_on, slash_behind_host, tail_is, text_is}
use Rattle.html_urls.proofs.Bases.Origins.{Origin}
use Rattle.html_urls.proofs.Filled.FirstSlot.{kept_front, plain_visible}
use Rattle.html_urls.proofs.Filled.OpenSegments.{in_path}
use Rattle.html_urls.proofs.OpenEscapes.{plain_bytes}
use Rattle.html_urls.proofs.Paths.Opening.{EndsHost, Reads, all_left, all_right, first_not, from_base, rooted_reads, web_reads}
use Rattle.html_urls.proofs.Places.FixedHosts.{Rooted, host_end, no_byte, root, rooted_is, web_scheme}
use Rattle.html_urls.proofs.Shapes.Encoded.Splits.{all_halves}
use Rattle.html_urls.proofs.Shapes.PlainParts.{IsPlainMarkup, front_plain}
use Rattle.html_urls.proofs.Shapes.ShapeLaw.{filled_plain, shape_law}
use Rattle.html_urls.proofs.Splits.{split_clear}

-- ---- the head of what is parsed

abbrev pub HeadAt : Option Parts → List ℕ → Parsed Parts → Type 0
HeadAt page input start = (query fragment : Option (List ℕ)) → head_of (parse_by_scheme (split_scheme input) page input query fragment) ≡ head_of start

head_with : (path : List ℕ) (query fragment : Option (List ℕ)) (start : Parsed Parts) → head_of (and_then start (λ url. Ok (with_tail (with_path url path) query fragment))) ≡ head_of start
head_with path query fragment start = grind (arith, nat_tests)

reads_head : (page : Option Parts) (input : List ℕ) (start : Parsed Parts) (path body : List ℕ) → Reads page input start path body → HeadAt page input start
reads_head page input start path body reads query fragment = ap head_of (reads query fragment) ∙ head_with (parse_path SpecialNotFile path body) query fragment start

pub rooted_head : (page : Option Parts) (input : List ℕ) → IsWebBase page → All (IsNot 92) input → Rooted input → HeadAt page input (from_base page)
rooted_head page _ web plain (root rest other) = reads_head page (47 ∷ rest) (from_base page) [] rest (rooted_reads page rest web other (first_not rest (All-tail (IsNot 92) 47 rest plain)))

pub web_base : (page : Option Parts) → IsWebPage page → IsWebBase page
web_base page web = grind (arith, nat_tests)

pub nothing_head : (page : Option Parts) → IsWebPage page → HeadAt page [] (from_base page)
unfolding split_scheme scheme_len parse_parts
nothing_head page web query fragment = grind (arith, nat_tests)

-- ---- the host of the web

-- what of the markup behind a base is the path's: nothing, or it goes on as the markup does
pub data Goes (behind : BehindBase) : List ℕ → Type 0 where
  stops : Goes behind []
  on : (markup : List ℕ) → goes_on_so behind markup ≡ true → behind ≢ Tail → Goes behind markup

abbrev Headed : Option Parts → BehindBase → List ℕ → Type 0
Headed page behind text = (start : Parsed Parts) × ((markup : List ℕ) → Goes behind markup → All (IsNot 92) markup → HeadAt page (text ++ markup) start)

-- the host ends before what follows
host_ends : (behind : BehindBase) (text : List ℕ) (origin : Origin text) (host rest more : List ℕ) → IsBase behind text → origin.more ≡ host ++ rest → All (IsNot 47) host → EndsHost rest → Goes behind more → EndsHost (rest ++ more)
host_ends behind text origin host (b ∷ rest) more base spelled none ends goes = ends
host_ends behind text origin host [] _ base spelled none ends stops = refl
host_ends Slash text origin host [] more base spelled none ends (on _ goes no_tail) = grind (arith, nat_tests, rooted_is)
host_ends Tail text origin host [] more base spelled none ends (on _ goes no_tail) = absurd (no_tail refl)
host_ends Segment text origin host [] more base spelled none ends (on _ goes no_tail) =
    let whole : origin.more ≡ host = spelled ∙ append-nil host in
    absurd (both_ways _ (ap (has_byte 47) whole ∙ no_byte 47 host none) (slash_behind_host text origin base))

web_headed : (page : Option Parts) (behind : BehindBase) (text : List ℕ) → IsBase behind text → All (IsNot 92) text → Origin text → Headed page behind text
web_headed page behind text base plain origin =
    let at = host_end origin.more in
    let host : List ℕ = origin.first ∷ at.host in
    let front : List ℕ = origin.scheme ++ codes "://" in
    let none = All-cons (IsNot 47) origin.first at.host origin.other at.none in
    let spelled : text ≡ front ++ (host ++ at.rest) = origin.spelled ∙ ap (λ l. origin.scheme ++ 58 ∷ 47 ∷ 47 ∷ origin.first ∷ l) at.spelled ∙ sym (append_assoc origin.scheme (codes "://") (host ++ at.rest)) in
    let host_plain = all_left (IsNot 92) host at.rest (all_right (IsNot 92) front (host ++ at.rest) (subst (All (IsNot 92)) spelled plain)) in (
      parse_authority (lowercase origin.scheme) host,
      λ more goes more_plain query fragment.
          let whole : text ++ more ≡ front ++ host ++ (at.rest ++ more) = ap (λ l. l ++ more) spelled ∙ simp append_assoc in
          let reads = web_reads page origin.scheme host (at.rest ++ more) query fragment (web_scheme origin.scheme origin.web) (omega arith) none host_plain (host_ends behind text origin at.host at.rest more base at.spelled at.none at.ends goes) in
          ap (λ l. head_of (parse_by_scheme (split_scheme l) page l query fragment)) whole ∙ ap head_of reads
          ∙ head_with (parse_path_start SpecialNotFile [] (at.rest ++ more)) query fragment (parse_authority (lowercase origin.scheme) host),
    )

-- ---- any base

own_headed : (page : Option Parts) (behind : BehindBase) (text : List ℕ) → IsWebPage page → IsBase behind text → All (IsNot 92) text → Rooted text → Headed page behind text
own_headed page behind text web base plain rooted = (from_base page, heads)
  where
    heads : (markup : List ℕ) → Goes behind markup → All (IsNot 92) markup → HeadAt page (text ++ markup) (from_base page)
    heads _ stops plain_markup = subst (λ input. HeadAt page input (from_base page)) (sym (append-nil text)) (rooted_head page text (web_base page web) plain rooted)
    heads markup (on _ goes no_tail) plain_markup =
        rooted_head page (text ++ markup) (web_base page web) (All-append (IsNot 92) text markup plain plain_markup)
        (rooted_is (text ++ markup) (rooted_on behind text markup base rooted goes no_tail))

headed : (page : Option Parts) (behind : BehindBase) (text : List ℕ) → IsWebPage page → IsBase behind text → All (IsNot 92) text → BaseText text → Headed page behind text
headed page behind text web base plain (own rooted) = own_headed page behind text web base plain rooted
headed page behind text web base plain (of_web origin) = web_headed page behind text base plain origin
headed page behind _ web base plain nothing = (from_base page, heads behind base)
  where
    heads : (behind : BehindBase) → IsBase behind [] → (markup : List ℕ) → Goes behind markup → All (IsNot 92) markup → HeadAt page markup (from_base page)
    heads behind base _ stops plain_markup = nothing_head page web
    heads Slash base markup (on _ goes no_tail) plain_markup = rooted_head page markup (web_base page web) plain_markup (rooted_is markup goes)
    heads Tail base markup (on _ goes no_tail) plain_markup = absurd (no_tail refl)
    heads Segment base markup (on _ goes no_tail) plain_markup = absurd (grind (arith, nat_tests, base.is, base.ends))

-- ---- the markup behind it

abbrev pub path_bytes : List ℕ → List ℕ
path_bytes markup = (split_once 63 (split_once 35 markup).0).0

-- the path begins with no `/` where the markup does not
pub path_begins : (markup : List ℕ) → get_or markup 0 0 ≢ 47 → get_or (path_bytes markup) 0 0 ≢ 47
unfolding split_once
path_begins [] other = other
path_begins (b ∷ markup) other = grind (arith, nat_tests)

goes_path : (behind : BehindBase) (markup : List ℕ) → goes_on_so behind markup ≡ true → Goes behind (path_bytes markup)
unfolding split_once
goes_path Slash markup goes = by_root markup (rooted_is markup goes)
  where
    by_root : (markup : List ℕ) → Rooted markup → Goes Slash (path_bytes markup)
    by_root _ (root rest other) = on (47 ∷ path_bytes rest) (is_below (path_bytes rest) (path_begins rest other)) (λ same. cc)
goes_path Tail markup goes = by_tail markup (tail_is markup goes)
  where
    by_tail : (markup : List ℕ) → TailBegins markup → Goes Tail (path_bytes markup)
    by_tail _ (asks rest) = stops
    by_tail _ (marks rest) = stops
goes_path Segment [] goes = stops
goes_path Segment (b ∷ rest) goes = on (path_bytes (b ∷ rest)) (grind (arith, nat_tests)) (λ same. cc)

without : (mark : ℕ) (bytes : List ℕ) → has_byte mark bytes ≡ false → All (IsNot mark) bytes
without mark bytes none i d within = grind (arith, nat_tests, none_from_list_any (λ b. b == mark) bytes none i d within)

-- the path, the query and the fragment of a text with neither mark, and of markup behind it
pub parse_is : (page : Option Parts) (text markup : List ℕ) → All IsVisible (text ++ markup) → All (IsNot 35) text → All (IsNot 63) text →
    parse_url page (text ++ markup)
    ≡ parse_by_scheme (split_scheme (text ++ path_bytes markup)) page (text ++ path_bytes markup) (split_once 63 (split_once 35 markup).0).1 (split_once 35 markup).1
unfolding parse_url
parse_is page text markup visible no_fragment no_query = grind (arith, nat_tests, kept_front, split_clear)

pub plain_no_backslash : (bytes : List ℕ) → All (λ b. is_plain_byte b ≡ true) bytes → All (IsNot 92) bytes
plain_no_backslash bytes plain = All-weaker (λ b. is_plain_byte b ≡ true) (IsNot 92) (λ b passes same. let clash = rw same at passes in cc) bytes plain

head_is : (page : Option Parts) (behind : BehindBase) (text markup : List ℕ) (start : Parsed Parts) → IsBase behind text → IsPlainMarkup markup → Goes behind (path_bytes markup) →
    ((more : List ℕ) → Goes behind more → All (IsNot 92) more → HeadAt page (text ++ more) start) → head_of (parse_url page (text ++ markup)) ≡ head_of start
head_is page behind text markup start base plain goes heads =
    let text_plain = plain_bytes text false base.plain in
    let visible = plain_visible (text ++ markup) (All-append (λ b. is_plain_byte b ≡ true) text markup text_plain plain) in
    let path : in_path (after_front NewSegment text) ≡ true = ap in_path base.is ∙ base.path in
    let no_fragment = without 35 text (no_fragment_in NewSegment text path) in
    let no_query = without 63 text (no_query_in NewSegment text refl path) in
    let hash = split_once 35 markup in
    let markup_plain = (all_halves (IsNot 92) 63 hash.0 (all_halves (IsNot 92) 35 markup (plain_no_backslash markup plain)).0).0 in
    ap head_of (parse_is page text markup visible no_fragment no_query)
    ∙ heads (path_bytes markup) goes markup_plain (split_once 63 hash.0).1 hash.1

pub markup_head : (page : Option Parts) (behind : BehindBase) (text markup : List ℕ) → IsWebPage page → is_base behind text ≡ true → goes_on_so behind markup ≡ true → IsPlainMarkup markup →
    head_of (parse_url page (text ++ markup)) ≡ head_of (parse_url page text)
unfolding split_once
markup_head page behind text markup web is goes plain =
    let base = base_is behind text is in
    let (start, heads) = headed page behind text web base (plain_no_backslash text (plain_bytes text false base.plain)) (text_is text base.host) in
    head_is page behind text markup start base plain (goes_path behind markup goes) heads
    ∙ sym (ap (λ l. head_of (parse_url page l)) (sym (append-nil text)) ∙ head_is page behind text [] start base (All-nil (λ b. is_plain_byte b ≡ true)) stops heads)

-- THE HEAD OF A BASE
pub base_head : (page : Option Parts) (behind : BehindBase) (text : List ℕ) (parts : List Given) (texts : List (List ℕ)) → IsWebPage page → is_base behind text ≡ true →
    goes_on_so behind (front_of parts) ≡ true → FillUrl (Markup text ∷ parts) texts → head_of (parse_url page (text ++ url_of parts texts)) ≡ head_of (parse_url page text)
base_head page behind text parts texts web is goes fills =
    let all : List Given = Markup text ∷ parts in
    let plain = front_plain all (filled_plain all texts fills) in
    ap head_of (shape_law page all texts (web_base page web) fills)
    ∙ by_front (parse_url page (text ++ front_of parts))
    ∙ markup_head page behind text (front_of parts) web is goes (all_right (λ b. is_plain_byte b ≡ true) text (front_of parts) plain)
  where
    by_front : (front : Parsed Parts) → head_of (fill (and_then front (λ url. Ok (shape_from (Markup text ∷ parts) url))) texts) ≡ head_of front
    by_front front = grind (arith, nat_tests)
