-- Stores of a constant length, of which less is wanted.
use Rattle.std.proofs.Common.{◌≡◌, ℕ, ◌+◌, ◌-◌, ◌≤◌, List, [], ◌++◌, ◌∙◌, ap, sym, refl, length, take, drop, arith, append-nil, length-append, length-take, length-take-le, take-take}
use Rattle.std.proofs.lemmas.List.{append_assoc, drop-take, drop_at, length-drop, take-append-drop, take_rest}
use Rattle.std.proofs.lemmas.Str.{IsUtf8-nil}
use Rattle.std.proofs.Math.Seq.{take-append-add}
use Rattle.std.specs.Str.{IsUtf8}
use Rattle.hesc_sinks.proofs.TakenText.{text_more}
use Rattle.hesc_sinks.specs.Stores.{Stored}
use Rattle.hesc_sinks.specs.Took.{Setting, TookAll, seen_in}

-- more than is wanted after some bytes, cut off again
pub cut_after : (old bytes long short : List ℕ) (count block len : ℕ) → len ≡ length old → count ≤ block → long ≡ old ++ take block bytes → short ≡ take (len + count) long → short ≡ old ++ take count bytes
cut_after old bytes long short count block len is_len few is_long is_short =
    rw (is_short, is_long, is_len) (take-append-add old (take block bytes) count ∙ ap (λ (more : List ℕ). old ++ more) (take-take count block bytes few))

-- the first bytes of a block
pub stored_first : (old new bytes : List ℕ) (place block count end : ℕ) → count ≤ block → block ≤ length bytes → place ≤ length old
    → Stored old new place (take block bytes) end → Stored old new place (take count bytes) (place + count)
stored_first old new bytes place block count end few there within stored =
    let far : place + count ≤ end = omega (arith, few, stored.after, length-take-le block bytes there) in
    record {
      before = cut_after (take place old) bytes (take end new) (take (place + count) new) count block place (sym (length-take-le place old within)) few stored.before (sym (take-take (place + count) end new far));
      after = omega (arith, length-take-le count bytes (omega (arith, few, there)));
      long = stored.long;
    }

-- two blocks, the second of which ends where the bytes do
pub stored_ends : (old mid new bytes rest : List ℕ) (place n middle end : ℕ) → n ≤ length bytes → length bytes ≤ n + n → place ≤ length old
    → Stored old mid place (take n bytes) middle → rest ≡ drop (length bytes - n) bytes → Stored mid new (place + (length bytes - n)) (take n rest) end → Stored old new place bytes end
stored_ends old mid new bytes rest place n middle end one both within first is_rest second =
    let last : ℕ = length bytes - n in
    let front = stored_first old mid bytes place n last middle (omega (arith, both)) one within first in
    let back : take n rest ≡ drop last bytes = ap (take n) is_rest ∙ ap (λ m. take m (drop last bytes)) (omega (arith, one)) ∙ take_rest bytes last in
    record {
      before = second.before ∙ (λ i. front.before i ++ back i) ∙ append_assoc (take place old) (take last bytes) (drop last bytes) ∙ ap (λ (l : List ℕ). take place old ++ l) (take-append-drop last bytes);
      after = omega (arith, second.after, ap length back, length-drop last bytes, one);
      long = second.long ∙ first.long;
    }

-- some bytes, and others after them
pub stored_then : (old mid new first second : List ℕ) (place middle end : ℕ) → Stored old mid place first middle → Stored mid new middle second end → Stored old new place (first ++ second) end
stored_then old mid new first second place middle end one two = record {
  before = two.before ∙ ap (λ (l : List ℕ). l ++ second) one.before ∙ append_assoc (take place old) first second;
  after = omega (arith, one.after, two.after, length-append first second);
  long = two.long ∙ one.long;
}

-- bytes that stand up to an end are no more than there are
end_within : (old new bytes : List ℕ) (place end : ℕ) → place ≤ length old → take end new ≡ take place old ++ bytes → end ≡ place + length bytes → end ≤ length new
end_within old new bytes place end within put after =
    omega (arith, after, length-take-le place old within, length-append (take place old) bytes, length-take end new, ap length put)

-- what was stored, where it is read again
pub read_after : (old new read taken bytes all : List ℕ) (place end : ℕ) → Stored old new place bytes end → place ≤ length old → read ≡ new → all ≡ taken ++ take (end - place) (drop place read) → all ≡ taken ++ bytes
read_after old new read taken bytes all place end stored within is_read is =
    let there : place + (end - place) ≡ end = omega (arith, stored.after) in
    let back : take (end - place) (drop place new) ≡ bytes =
    sym (drop-take place (end - place) new)
    ∙ ap (λ n. drop place (take n new)) there
    ∙ ap (drop place) stored.before
    ∙ drop_at (take place old) bytes place (length-take-le place old within) in
    is ∙ ap (λ (l : List ℕ). taken ++ take (end - place) (drop place l)) is_read ∙ ap (λ (l : List ℕ). taken ++ l) back

-- after what stood there at first, bytes hold a text up to an end
pub record Holds (bytes start taken : List ℕ) (end : ℕ) : Type 0 where
  pub within : end ≤ length bytes
  pub holds : take end bytes ≡ start ++ taken
  pub utf8 : ∥ IsUtf8 taken ∥₁

-- and they do after a piece was put behind it
pub Holds-more : (old new start same taken piece all : List ℕ) (place end : ℕ) → Holds old start taken place → take end new ≡ take place old ++ piece → end ≡ place + length piece → same ≡ start → all ≡ taken ++ piece → IsUtf8 piece → Holds new same all end
Holds-more old new start same taken piece all place end before put after is_same is more = record {
  within = end_within old new piece place end before.within put after;
  holds = put ∙ ap (λ (l : List ℕ). l ++ piece) before.holds ∙ append_assoc start taken piece ∙ (λ i. sym is_same i ++ sym is i);
  utf8 = text_more taken piece all is before.utf8 more;
}

-- or nothing
pub Holds-kept : (old new start same taken all : List ℕ) (place : ℕ) → Holds old start taken place → take place new ≡ take place old → same ≡ start → all ≡ taken → Holds new same all place
Holds-kept old new start same taken all place before kept is_same is =
    Holds-more old new start same taken [] all place place before (kept ∙ sym (append-nil (take place old))) (omega arith) is_same (is ∙ sym (append-nil taken)) IsUtf8-nil

-- where all bytes stay, those up to an end do
pub filled_after : (old new : List ℕ) (place : ℕ) → place ≤ length old → take (length old) new ≡ old → take place new ≡ take place old
filled_after old new place within kept = sym (take-take place (length old) new within) ∙ ap (take place) kept

-- and that is what was taken
pub took_stored : (old new : Setting) (taken piece all : List ℕ) (failures more place end : ℕ) → new ≡ old → all ≡ taken ++ piece → more ≡ failures → end ≡ place + length piece → TookAll (seen_in old place taken failures) (seen_in new end all more) piece
took_stored old new taken piece all failures more place end same is none after =
    rw same
    (record {
      taken = is;
      failures = none;
      room = omega (arith, after);
      same_reference = refl;
      same_before = refl;
    })
