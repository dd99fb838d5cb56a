-- A text in the path.
use Rattle.std.proofs.Common.{◌≡◌, ◌⊎◌, inl, inr, append-nil, ℕ, ◌<◌, true, false, List, [], ◌∷◌, ◌++◌, length, Option, Some, None, Ok, Err, IfOk, codes, All, sym, refl, ap, ◌∙◌, subst, append_assoc, arith, ◌≢◌, get_or}
use Rattle.std.proofs.lemmas.Bool.{cond_both}
use Rattle.std.proofs.lemmas.Bool.Decides.{nat_tests}
use Rattle.url.specs.declared.error.ParseError.TheVariants.{RelativeUrlWithCannotBeABaseBase}
use Rattle.std.proofs.lemmas.List.{get_or_append_left}
use Rattle.std.proofs.lemmas.List.Elements.{All-nil, All-tail, All-append, All-weaker}
use Rattle.percent_encoding.specs.Percent.{percent_encode}
use Rattle.percent_encoding.proofs.PercentLemmas.{percent_encode_nonempty}
use Rattle.url.specs.declared.sets.TheConstants.{PATH}
use Rattle.url.specs.declared.scheme.SchemeType.TheVariants.{SpecialNotFile}
use Rattle.url.specs.Head.{without_tail}
use Rattle.url.specs.Input.{lowercase, split_once}
use Rattle.url.specs.Path.{dot_count, parse_path}
use Rattle.url.specs.Parts.{Parts, cannot_be_a_base, kind_of}
use Rattle.url.specs.Scheme.{scheme_type}
use Rattle.url.specs.Parser.{Parsed, and_then, parse_authority, with_path, with_tail, split_scheme, parse_by_scheme, parse_url}
use Rattle.url.proofs.InputLemmas.{split_once_none}
use Rattle.html_urls.specs.declared.component.TheConstants.{COMPONENT}
use Rattle.html_urls.specs.Components.{component, is_component_byte}
use Rattle.html_urls.specs.Heads.{on_ok}
use Rattle.html_urls.specs.Hosts.{FixesHost, IsFirstSegment, IsWebScheme, absolute, hosted, rooted, relative, IsWebBase}
use Rattle.html_urls.specs.Inputs.{IsNot, kept, kept_rest}
use Rattle.html_urls.specs.Links.{has_scheme}
use Rattle.html_urls.specs.Parts.Paths.{is_path_byte, IsPathText, EndsInPath, FitsSegment, path_goes_on}
use Rattle.html_urls.specs.Parts.Rests.{path_of, query_of, fragment_of}
use Rattle.html_urls.specs.Parts.Segments.{last_segment, HasNoDotSegments}
use Rattle.html_urls.proofs.Components.{component_without, encode_around}
use Rattle.html_urls.proofs.Splits.{kept_around, split_clear}
use Rattle.html_urls.proofs.Paths.PathSegments.{after_front, last_after, path_alone, path_grows}
use Rattle.html_urls.proofs.Paths.Opening.{Reads, authority_of, authority_scheme, hosted_reads, from_base, folder_of, all_left, all_right, rooted_reads, first_not, absolute_reads}
use Rattle.html_urls.proofs.Paths.WebSchemes.{web_type}
use Rattle.html_urls.proofs.Paths.FirstSegment.{segment_reads, text_passed}

-- ---- bytes

path_without : (mark : ℕ) → is_path_byte mark ≡ false → (bytes : List ℕ) → IsPathText bytes → All (IsNot mark) bytes
path_without mark other = All-weaker (λ b. is_path_byte b ≡ true) (IsNot mark) (λ b passes same. let clash = rw (same, other) at passes in cc)

-- ---- what the parser has read at the end of the front

-- the URL is special, and no file
abbrev pub IsSpecial : Parts → Type 0
IsSpecial url = kind_of url ≡ SpecialNotFile

base_special : (base : Option Parts) → IsWebBase base → IfOk (from_base base) IsSpecial
base_special None web = tt
base_special (Some url) web = grind (arith, nat_tests)

web_special : (scheme host : List ℕ) → IsWebScheme scheme → IfOk (parse_authority (lowercase scheme) host) IsSpecial
web_special scheme host web = of_scheme (parse_authority (lowercase scheme) host) (authority_scheme (lowercase scheme) host) (web_type scheme web)
  where
    of_scheme : (parsed : Parsed Parts) → IfOk parsed (λ url. url.scheme ≡ lowercase scheme) → scheme_type (lowercase scheme) ≡ SpecialNotFile → IfOk parsed IsSpecial
    of_scheme parsed same kind = grind (arith, nat_tests)

host_special : (base : Option Parts) (host : List ℕ) → IsWebBase base → IfOk (authority_of base host) IsSpecial
host_special None host web = tt
host_special (Some url) host web =
    cond_both (cannot_be_a_base url) (Err RelativeUrlWithCannotBeABaseBase) (parse_authority url.scheme host) (λ (r : Parsed Parts). IfOk r IsSpecial) (λ _. tt)
    (λ _. of_scheme (parse_authority url.scheme host) (authority_scheme url.scheme host))
  where
    of_scheme : (parsed : Parsed Parts) → IfOk parsed (λ other. other.scheme ≡ url.scheme) → IfOk parsed IsSpecial
    of_scheme parsed same = grind (arith, nat_tests)

record Opened (base : Option Parts) (front text : List ℕ) : Type 0 where
  start : Parsed Parts
  special : IfOk start IsSpecial
  path : List ℕ
  body : List ℕ
  plain : All (IsNot 92) body
  last : last_segment body ≡ last_segment front
  alone : Reads base front start path body
  goes_on : (rest : List ℕ) → (IsFirstSegment front → has_scheme rest ≡ false) → Reads base (front ++ (component text ++ rest)) start path (body ++ (component text ++ rest))

-- the first byte of a segment that goes on with a component
first_byte : (mark : ℕ) (rest text more : List ℕ) → mark ≢ 0 → is_component_byte mark ≡ false → get_or rest 0 0 ≢ mark → (rest ≡ [] → 0 < length text) → get_or (rest ++ (component text ++ more)) 0 0 ≢ mark
first_byte mark [] text more zero other first some =
    let long = percent_encode_nonempty COMPONENT text (some refl) in
    rw (get_or_append_left (component text) more 0 0 long) (component_without mark other text 0 0 long)
first_byte mark (b ∷ rest) text more zero other first some = first

host_opened : (base : Option Parts) (front text : List ℕ) → IsWebBase base → All (IsNot 92) front → FixesHost front → (front ≡ 47 ∷ [] → 0 < length text) → Opened base front text
host_opened base _ text web plain (absolute scheme host rest is_web some other) text_some =
    let head = scheme ++ codes "://" ++ host in
    let before = all_left (IsNot 92) head (47 ∷ rest) plain in
    let host_plain = all_right (IsNot 92) (scheme ++ codes "://") host before in
    let after = All-tail (IsNot 92) 47 rest (all_right (IsNot 92) head (47 ∷ rest) plain) in
    record {
      start = parse_authority (lowercase scheme) host;
      special = web_special scheme host is_web;
      path = [];
      body = rest;
      plain = after;
      last = sym (last_after head rest);
      alone = absolute_reads base scheme host rest is_web some other host_plain;
      goes_on = λ more may. subst (λ x. Reads base x (parse_authority (lowercase scheme) host) [] (rest ++ (component text ++ more))) (sym (append_assoc head (47 ∷ rest) (component text ++ more))) (absolute_reads base scheme host (rest ++ (component text ++ more)) is_web some other host_plain);
    }
host_opened base _ text web plain (hosted host rest some other) text_some =
    let head = codes "//" ++ host in
    let host_plain = all_right (IsNot 92) (codes "//") host (all_left (IsNot 92) head (47 ∷ rest) plain) in
    let after = All-tail (IsNot 92) 47 rest (all_right (IsNot 92) head (47 ∷ rest) plain) in
    record {
      start = authority_of base host;
      special = host_special base host web;
      path = [];
      body = rest;
      plain = after;
      last = sym (last_after head rest);
      alone = hosted_reads base host rest web some other host_plain;
      goes_on = λ more may. subst (λ x. Reads base x (authority_of base host) [] (rest ++ (component text ++ more))) (sym (append_assoc head (47 ∷ rest) (component text ++ more))) (hosted_reads base host (rest ++ (component text ++ more)) web some other host_plain);
    }
host_opened base _ text web plain (rooted rest other) text_some =
    let after = All-tail (IsNot 92) 47 rest plain in
    let no_backslash = first_not rest after in
    let some = λ (none : rest ≡ []). text_some (ap (λ l. 47 ∷ l) none) in
    record {
      start = from_base base;
      special = base_special base web;
      path = [];
      body = rest;
      plain = after;
      last = sym (last_after [] rest);
      alone = rooted_reads base rest web other no_backslash;
      goes_on = λ more may. rooted_reads base (rest ++ (component text ++ more)) web (first_byte 47 rest text more (omega arith) refl other some) (first_byte 92 rest text more (omega arith) refl no_backslash some);
    }
host_opened base _ text web plain (relative first rest some bytes) text_some = record {
  start = from_base base;
  special = base_special base web;
  path = folder_of base;
  body = first ++ 47 ∷ rest;
  plain = plain;
  last = refl;
  alone = segment_reads base first (47 ∷ rest) web (some, bytes) refl;
  goes_on = λ more may. subst (λ x. Reads base x (from_base base) (folder_of base) x) (sym (append_assoc first (47 ∷ rest) (component text ++ more))) (segment_reads base first (47 ∷ (rest ++ (component text ++ more))) web (some, bytes) refl);
}

opened : (base : Option Parts) (front text : List ℕ) → IsWebBase base → All (IsNot 92) front → FixesHost front ⊎ IsFirstSegment front → (front ≡ 47 ∷ [] → 0 < length text) → Opened base front text
opened base front text web plain (inl fixed) text_some = host_opened base front text web plain fixed text_some
opened base front text web plain (inr segment) text_some = record {
  start = from_base base;
  special = base_special base web;
  path = folder_of base;
  body = front;
  plain = plain;
  last = refl;
  alone = subst (λ x. Reads base x (from_base base) (folder_of base) x) (append-nil front) (segment_reads base front [] web segment refl);
  goes_on = λ more may. segment_reads base front (component text ++ more) web segment (text_passed text more ∙ may segment);
}

-- ---- the law

grow : (start : Parsed Parts) (text rest path longer : List ℕ) → longer ≡ path ++ component text ++ percent_encode PATH (path_of rest) →
    and_then start (λ url. Ok (with_tail (with_path url longer) (query_of rest) (fragment_of rest))) ≡ on_ok (path_goes_on text rest) (and_then start (λ url. Ok (with_tail (with_path url path) None None)))
grow start text rest path longer grown = grind (arith, nat_tests)

-- THE PATH LAW: the URL is that of the front, with a path that goes on, and the query and the fragment of the rest
pub path_law : (base : Option Parts) (front text rest : List ℕ) → IsWebBase base → EndsInPath front → FitsSegment front text rest →
    parse_url base (front ++ component text ++ rest) ≡ on_ok (path_goes_on text rest) (parse_url base front)
unfolding parse_url percent_encode
path_law base front text rest web place fits =
    let c = component text in
    let before = kept front in
    let hash = split_once 35 (kept_rest rest) in
    let body = path_of rest in
    let at = opened base before text web (path_without 92 refl before place.plain) place.fixed fits.some in
    let none = λ (mark : ℕ) (other : is_path_byte mark ≡ false). path_without mark other before place.plain in
    let whole_hash =
    ap (split_once 35) (kept_around front text rest place.ends)
    ∙ split_clear 35 before (c ++ kept_rest rest) (none 35 refl)
    ∙ ap (λ r. (before ++ r.0, r.1)) (split_clear 35 c (kept_rest rest) (component_without 35 refl text)) in
    let whole_question =
    split_clear 63 before (c ++ hash.0) (none 63 refl)
    ∙ ap (λ r. (before ++ r.0, r.1)) (split_clear 63 c hash.0 (component_without 63 refl text)) in
    let front_hash = split_once_none 35 before (none 35 refl) in
    let front_question = split_once_none 63 before (none 63 refl) in
    let read = λ (r : List ℕ × Option (List ℕ)) (fragment : Option (List ℕ)). parse_by_scheme (split_scheme r.0) base r.0 r.1 fragment in
    let read_hash = λ (r : List ℕ × Option (List ℕ)). read (split_once 63 r.0) r.1 in
    let after_plain = All-append (IsNot 92) c body (component_without 92 refl text) (path_without 92 refl body fits.plain) in
    let resolved : dot_count (last_segment at.body) ≡ 0 = ap dot_count at.last ∙ place.resolved in
    let dots : HasNoDotSegments (last_segment at.body ++ (c ++ body)) =
    subst HasNoDotSegments (append_assoc (last_segment before) c body ∙ ap (λ x. x ++ (c ++ body)) (sym at.last)) fits.resolved in
    let encoded = encode_around COMPONENT PATH refl refl [] text body in
    let grown = path_grows at.path at.body (c ++ body) at.plain after_plain resolved dots ∙ ap (λ x. parse_path SpecialNotFile at.path at.body ++ x) encoded ∙ sym (append_assoc (parse_path SpecialNotFile at.path at.body) c (percent_encode PATH body)) in
    ap read_hash whole_hash ∙ ap (λ r. read r hash.1) whole_question ∙ at.goes_on body fits.scheme (query_of rest) (fragment_of rest)
    ∙ grow at.start text rest (parse_path SpecialNotFile at.path at.body) (parse_path SpecialNotFile at.path (at.body ++ (c ++ body))) grown
    ∙ sym (ap (on_ok (path_goes_on text rest)) (ap read_hash front_hash ∙ ap (λ r. read r None) front_question ∙ at.alone None None))

-- ---- the URL of the front alone

-- what the parser makes of a front that ends in its path: its path ends with the open segment
abbrev Alone : Option Parts → List ℕ → Type 0
Alone base front = (start : Parsed Parts) × IfOk start IsSpecial × (before : List ℕ) × (parse_url base front ≡ and_then start (λ url. Ok (with_tail (with_path url (before ++ 47 ∷ percent_encode PATH (last_segment (kept front)))) None None)))

alone : (base : Option Parts) (front : List ℕ) → IsWebBase base → EndsInPath front → Alone base front
unfolding parse_url
alone base front web place =
    let whole = kept front in
    let at = opened base whole (codes "a") web (path_without 92 refl whole place.plain) place.fixed (λ _. omega arith) in
    let path = path_alone at.path at.body at.plain (ap dot_count at.last ∙ place.resolved) in
    let before = (after_front at.path [] at.body (All-nil (IsNot 47)) at.plain).0 in
    let read = λ (r : List ℕ × Option (List ℕ)) (fragment : Option (List ℕ)). parse_by_scheme (split_scheme r.0) base r.0 r.1 fragment in
    let read_hash = λ (r : List ℕ × Option (List ℕ)). read (split_once 63 r.0) r.1 in (
      at.start,
      at.special,
      before,
      ap read_hash (split_once_none 35 whole (path_without 35 refl whole place.plain))
          ∙ ap (λ r. read r None) (split_once_none 63 whole (path_without 63 refl whole place.plain))
          ∙ at.alone None None
          ∙ ap (λ p. and_then at.start (λ url. Ok (with_tail (with_path url p) None None))) (path ∙ ap (λ l. before ++ 47 ∷ percent_encode PATH l) at.last),
    )

-- it has neither a query nor a fragment
pub path_bare : (base : Option Parts) (front : List ℕ) → IsWebBase base → EndsInPath front → parse_url base front ≡ on_ok without_tail (parse_url base front)
path_bare base front web place = grind (arith, nat_tests, alone)

-- it is special
pub path_special : (base : Option Parts) (front : List ℕ) → IsWebBase base → EndsInPath front → IfOk (parse_url base front) IsSpecial
path_special base front web place = grind (arith, nat_tests, alone)

-- its path is some path, `/` and the open segment, percent-encoded
pub front_path : (base : Option Parts) (front : List ℕ) → IsWebBase base → EndsInPath front → (before : List ℕ) × IfOk (parse_url base front) (λ url. url.path ≡ before ++ 47 ∷ percent_encode PATH (last_segment (kept front)))
front_path base front web place = grind (arith, nat_tests, alone)
