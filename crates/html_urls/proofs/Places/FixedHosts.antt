-- Fronts that fix the host, by the tests of their first bytes.
use Rattle.std.proofs.Common.{◌≡◌, ◌≢◌, ℕ, ◌+◌, ◌<◌, Bool, true, false, not, ◌&&◌, ◌||◌, ◌==◌, List, [], ◌∷◌, ◌++◌, length, get_or, take, drop, lt_of_not-le, refl, codes, bytes_eq, is_some, All, sym, ap, ◌∙◌, subst, append_assoc, arith, append-nil, length-append, eqb-true, length-take, inl, inr}
use Rattle.std.specs.List.{list_any}
use Rattle.std.proofs.lemmas.Bool.{and_parts, both_ways, cases_Bool, cases_eq, ne_eqb}
use Rattle.std.proofs.lemmas.Bool.Decides.{nat_tests}
use Rattle.std.proofs.lemmas.List.{get_or_past}
use Rattle.std.proofs.lemmas.List.Elements.{All-nil, All-cons}
use Rattle.std.proofs.lemmas.Slice.Eq.{bytes_eq-Decides}
use Rattle.url.specs.Input.{split_once}
use Rattle.url.proofs.HostLemmas.{none_from_list_any}
use Rattle.html_urls.proofs.Paths.Opening.{EndsHost}
use Rattle.url.proofs.InputLemmas.{list_any_none, All-take-prefix_len, Passes, split_around}
use Rattle.html_urls.specs.Hosts.{IsWebScheme, FixesHost, absolute, hosted, is_web_scheme, relative, has_first_segment, is_first_byte, rooted}
use Rattle.html_urls.specs.Inputs.{IsNot}
use Rattle.html_urls.specs.Links.{is_mark, mark_at}
use Rattle.html_urls.specs.OpenParts.{has_byte, has_host, is_rooted, has_web_host, is_fixed}

pub web_scheme : (scheme : List ℕ) → is_web_scheme scheme ≡ true → IsWebScheme scheme
web_scheme scheme known = grind (arith, nat_tests, bytes_eq, bytes_eq-Decides)

-- a text with this byte at its first mark
pub at_mark : (text : List ℕ) (c : ℕ) → c ≢ 0 → get_or text (mark_at text) 0 ≡ c → text ≡ take (mark_at text) text ++ c ∷ drop (mark_at text + 1) text
at_mark text c some same = split_around text (mark_at text) c (lt_of_not-le (λ past. some (sym same ∙ get_or_past text (mark_at text) 0 past))) same

pub no_byte : (mark : ℕ) (bytes : List ℕ) → All (IsNot mark) bytes → has_byte mark bytes ≡ false
no_byte mark bytes none = list_any_none (λ b. b == mark) bytes (λ i d within. ne_eqb _ mark (none i d within))

pub byte_found : (mark : ℕ) (bytes : List ℕ) → has_byte mark bytes ≡ is_some (split_once mark bytes).1
unfolding split_once
byte_found mark [] = refl
byte_found mark (b ∷ bytes) =
    elim (cases_Bool (b == mark)) [ inl here ↦ rw here refl | inr other ↦ rw other (byte_found mark bytes) ]

-- ---- one `/`, and no second one

pub data Rooted : List ℕ → Type 0 where
  root : (rest : List ℕ) → get_or rest 0 0 ≢ 47 → Rooted (47 ∷ rest)

pub rooted_is : (text : List ℕ) → is_rooted text ≡ true → Rooted text
rooted_is [] is = cc
rooted_is (a ∷ []) is = grind (arith, nat_tests, root)
rooted_is (a ∷ b ∷ rest) is = grind (arith, nat_tests, root)

own_root : {front : List ℕ} → Rooted front → FixesHost front
own_root (root rest other) = rooted rest other

-- ---- a host

pub record HostEnd (bytes : List ℕ) : Type 0 where
  pub host : List ℕ
  pub rest : List ℕ
  pub spelled : bytes ≡ host ++ rest
  pub none : All (IsNot 47) host
  pub ends : EndsHost rest

pub host_end : (bytes : List ℕ) → HostEnd bytes
host_end [] = record { host = []; rest = []; spelled = refl; none = All-nil (IsNot 47); ends = refl }
host_end (b ∷ bytes) =
    let later = host_end bytes in
    elim (cases_eq b 47) [
      | inl here ↦ record { host = []; rest = b ∷ bytes; spelled = refl; none = All-nil (IsNot 47); ends = here }
      | inr other ↦ record { host = b ∷ later.host; rest = later.rest; spelled = ap (λ l. b ∷ l) later.spelled; none = All-cons (IsNot 47) b later.host other later.none; ends = later.ends }
    ]

-- `//`, a host and `/`
record HostAt (body : List ℕ) : Type 0 where
  host : List ℕ
  rest : List ℕ
  some : 0 < length host
  none : All (IsNot 47) host
  parts : body ≡ codes "//" ++ host ++ 47 ∷ rest

host_at : (body : List ℕ) → has_host body ≡ true → HostAt body
host_at [] has = cc
host_at (a ∷ []) has = cc
host_at (a ∷ b ∷ []) has = cc
host_at (a ∷ b ∷ c ∷ more) has =
    let first : a ≡ 47 = grind (arith, nat_tests) in
    let second : b ≡ 47 = grind (arith, nat_tests) in
    let third : c ≢ 47 = grind (arith, nat_tests) in
    let found = (and_parts (a == 47 && b == 47 && not (c == 47)) (has_byte 47 more) has).1 in
    let at = host_end more in
    by_rest first second third found at.host at.rest at.spelled at.none at.ends
  where
    by_rest : a ≡ 47 → b ≡ 47 → c ≢ 47 → has_byte 47 more ≡ true → (host rest : List ℕ) → more ≡ host ++ rest → All (IsNot 47) host → EndsHost rest → HostAt (a ∷ b ∷ c ∷ more)
    by_rest first second third found host [] spelled none ends = absurd (both_ways _ (ap (has_byte 47) (spelled ∙ append-nil host) ∙ no_byte 47 host none) found)
    by_rest first second third found host (d ∷ rest) spelled none ends = record {
      host = c ∷ host;
      rest = rest;
      some = omega arith;
      none = All-cons (IsNot 47) c host third none;
      parts = λ i. first i ∷ second i ∷ c ∷ (spelled ∙ ap (λ x. host ++ x ∷ rest) ends) i;
    }

own_host : (front : List ℕ) → has_host front ≡ true → FixesHost front
own_host front whole = let at = host_at front whole in subst FixesHost (sym at.parts) (hosted at.host at.rest at.some at.none)

web_host : (front : List ℕ) → has_web_host front ≡ true → FixesHost front
web_host front web =
    let scheme = take (mark_at front) front in
    let both = and_parts (get_or front (mark_at front) 0 == 58 && is_web_scheme scheme) (has_host (drop (mark_at front + 1) front)) web in
    let first = and_parts (get_or front (mark_at front) 0 == 58) (is_web_scheme scheme) both.0 in
    let at = host_at (drop (mark_at front + 1) front) both.1 in
    let spelled : front ≡ scheme ++ codes "://" ++ at.host ++ 47 ∷ at.rest =
    at_mark front 58 (λ e. absurd (omega arith)) (eqb-true _ 58 first.0) ∙ ap (λ l. scheme ++ 58 ∷ l) at.parts ∙ simp append_assoc in
    subst FixesHost (sym spelled) (absolute scheme at.host at.rest (web_scheme scheme first.1) at.some at.none)

-- ---- a first segment

first_bytes : (xs : List ℕ) → All (Passes (λ b. not (is_mark b))) xs → list_any (λ b. b == 92) xs ≡ false → All (λ b. is_first_byte b ≡ true) xs
first_bytes xs marks plain i d within = grind (arith, nat_tests, marks i d within, none_from_list_any (λ b. b == 92) xs plain i d within)

first_segment : (front : List ℕ) → has_first_segment front ≡ true → FixesHost front
first_segment front has =
    let n = mark_at front in
    let first = take n front in
    let some : 0 < n = grind (arith, nat_tests) in
    let plain : list_any (λ b. b == 92) first ≡ false = grind (arith, nat_tests) in
    let spelled = at_mark front 47 (λ e. absurd (omega arith)) (grind (arith, nat_tests)) in
    subst FixesHost (sym spelled)
    (relative first (drop (n + 1) front) (omega (arith, ap length spelled, length-append first (47 ∷ drop (n + 1) front), length-take {A = ℕ})) (first_bytes first (All-take-prefix_len (λ b. not (is_mark b)) front) plain))

-- ---- any of these

pub fixed_front : (front : List ℕ) → is_fixed front ≡ true → FixesHost front
fixed_front front fixed = by_tests (is_rooted front) (has_first_segment front) (has_host front) refl refl refl fixed
  where
    by_tests : (r f h : Bool) → is_rooted front ≡ r → has_first_segment front ≡ f → has_host front ≡ h → (r || f || h || has_web_host front) ≡ true → FixesHost front
    by_tests true f h is_root below own fixed = own_root (rooted_is front is_root)
    by_tests false true h no_root below own fixed = first_segment front below
    by_tests false false true no_root none own fixed = own_host front own
    by_tests false false false no_root none no_host fixed = web_host front fixed
