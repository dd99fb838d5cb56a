-- The script of a form's text is read back, whatever follows it.
use Rattle.std.proofs.Common.{ℕ, suc, ◌≡◌, ◌≢◌, List, [], ◌∷◌, ◌++◌, Some, IsUtf8, codes, length, refl, sym, ap, ◌∙◌, arith, append_assoc, ne_eqb}
use Rattle.std.proofs.Math.Seq.{drop-append_seam}
use Rattle.hesc_specs.specs.Text.Ascii.{single_quote, space, less_than}
use Rattle.hesc_specs.specs.Bodies.Encoding.{body_encoding}
use Rattle.hesc_specs.specs.Strings.Encoding.{IsPlain, string_encoding}
use Rattle.hesc_specs.specs.declared.elements.Element.TheVariants.{Script}
use Rattle.hesc_specs.specs.declared.quotes.Quotes.TheVariants as quotes
use Rattle.hesc_specs.proofs.Strings.Plain.{plain-string_encoding}
use Rattle.hesc_grammars.specs.declared.place.Place.TheVariants.{ScriptBody}
use Rattle.hesc_places.specs.declared.markup.types.Quoting.{Quoting}
use Rattle.hesc_places.specs.declared.markup.types.Quoting.TheVariants.{Unquoted, Single, Double}
use Rattle.hesc_places.specs.Pages.FormReadings.{alerted, after_attributes, script_at}
use Rattle.hesc_places.specs.Pages.FormTexts.{gap_after, script_text}
use Rattle.hesc_grammars.specs.Places.{reading}
use Rattle.hesc_places.proofs.Places.Bodies.{read_before_tag}
use Rattle.hesc_places.proofs.Places.ScriptStrings.{script_string_reading}

-- no byte is `<`
abbrev HasNoOpener : List ℕ → Type 0
HasNoOpener [] = Unit {0}
HasNoOpener (b ∷ bytes) = (b ≢ less_than) × HasNoOpener bytes

plain-no_opener : (bytes : List ℕ) → IsPlain bytes → HasNoOpener bytes
plain-no_opener [] plain = tt
plain-no_opener (b ∷ bytes) plain =
    ((plain 0 0 (omega arith)).1, plain-no_opener bytes (λ k d below. plain (suc k) d (omega arith)))

append-no_opener : (front back : List ℕ) → HasNoOpener front → HasNoOpener back → HasNoOpener (front ++ back)
append-no_opener [] back none others = others
append-no_opener (b ∷ front) back none others = (none.0, append-no_opener front back none.1 others)

-- a body without `<` is its own encoding
own_encoding : (body : List ℕ) → HasNoOpener body → body_encoding Script body ≡ body
own_encoding [] none = refl
own_encoding (b ∷ body) none = rw (ne_eqb b less_than none.0) (ap (λ bytes. b ∷ bytes) (own_encoding body none.1))

module _ (script : List ℕ) (utf8 : IsUtf8 script) where
  -- what the encoder writes for the string
  abbrev literal : List ℕ
  literal = string_encoding Script quotes.Single script

  -- the call of `alert`, and its end after the opening mark
  abbrev call : List ℕ
  call = codes "alert('" ++ (literal ++ codes "');")

  call-no_opener : HasNoOpener call
  call-no_opener =
      append-no_opener (codes "alert('") (literal ++ codes "');")
      (omega arith, (omega arith, (omega arith, (omega arith, (omega arith, (omega arith, (omega arith, tt)))))))
      (append-no_opener literal (codes "');") (plain-no_opener literal (plain-string_encoding Script quotes.Single script))
      (omega arith, (omega arith, (omega arith, tt))))

  -- the call is the whole body
  body_again : (rest : List ℕ) →
      reading ScriptBody (call ++ (codes "</script>" ++ rest)) ≡ Some (call, length call)
  body_again rest =
      let own : body_encoding Script call ≡ call = own_encoding call call-no_opener in
      ap (λ body. reading ScriptBody (body ++ (codes "</script>" ++ rest))) (sym own)
      ∙ (read_before_tag Script call (codes "</script>" ++ rest) refl ∙ ap (λ body. Some (body, length body)) own)

  -- and its literal is the string
  alerted_again : alerted call ≡ Some script
  unfolding alerted
  alerted_again =
      rw (
        script_string_reading quotes.Single single_quote refl script (codes ");") utf8,
        drop-append_seam literal (codes "');"),
      ) refl

  script_again : (rest : List ℕ) → script_at (call ++ (codes "</script>" ++ rest)) ≡ Some (script, rest)
  unfolding script_at
  script_again rest = rw (body_again rest, alerted_again, drop-append_seam call (codes "</script>" ++ rest)) refl

  regrouped : (rest : List ℕ) →
      script_text script ++ rest ≡ codes "/><script>" ++ (call ++ (codes "</script>" ++ rest))
  regrouped rest =
      ap (λ bytes. codes "/><script>alert('" ++ bytes) (
      append_assoc literal (codes "');</script>") rest
      ∙ sym (append_assoc literal (codes "');") (codes "</script>" ++ rest))
      )

  -- after the attributes, the script is read back
  pub tail_again : (quoting : Quoting) (rest : List ℕ) →
      after_attributes (gap_after quoting ++ (script_text script ++ rest)) ≡ Some (script, rest)
  unfolding after_attributes
  tail_again Unquoted rest = ap (λ bytes. after_attributes (space ∷ bytes)) (regrouped rest) ∙ script_again rest
  tail_again Single rest = ap after_attributes (regrouped rest) ∙ script_again rest
  tail_again Double rest = ap after_attributes (regrouped rest) ∙ script_again rest
