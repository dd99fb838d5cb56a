-- The URLs of a page: the values of the attributes that hold one, as the tokenizer reads them, and where they lead.
use Rattle.std.specs.Prelude.{◌≡◌, ◌⊎◌, ⊤, ℕ, List, [], ◌∷◌, ◌++◌, Option}
use Rattle.std.specs.List.{AllByRecursion}
use Rattle.std.specs.Str.{IsUtf8}
use Rattle.html_template.specs.declared.parts.SlotKind.{SlotKind}
use Rattle.html_template.specs.declared.parts.SlotKind.TheVariants as kind
use Rattle.html_template.specs.Slots.{MayBegin}
use Rattle.html_template.specs.Templates.{Chunk, Fill, Markup, Slot, page}
use Rattle.html_tokenizer.specs.Tokenizer.States.{data_state}
use Rattle.html_tokenizer.specs.UrlValues.{urls_from}
use Rattle.html_urls.specs.Bases.{IsWebPage}
use Rattle.html_urls.specs.Heads.{head_of}
use Rattle.html_urls.specs.Hosts.{IsWebBase}
use Rattle.html_urls.specs.Parts.Pairs.{string_count}
use Rattle.html_urls.specs.Parts.Segments.{segment_count}
use Rattle.url.specs.Parser.{parse_url}
use Rattle.url.specs.Parts.{Parts}

-- in the order of their ends
abbrev pub urls_of : List ℕ → List (List ℕ)
urls_of page = urls_from data_state [] page

-- on each page of the web, and on none, both are refused, or have one scheme, user, password, host and port, as many segments
-- and as many strings between `&`
pub record LeadAlike (first second : List ℕ) : Type 0 where
  pub head : (base : Option Parts) → IsWebBase base → head_of (parse_url base first) ≡ head_of (parse_url base second)
  pub segments : (base : Option Parts) → IsWebBase base → segment_count (parse_url base first) ≡ segment_count (parse_url base second)
  pub strings : (base : Option Parts) → IsWebBase base → string_count (parse_url base first) ≡ string_count (parse_url base second)

-- the texts of slots with which URLs begin, each with the kind of its slot, in their order
abbrev pub FirstText : Type 0
FirstText = SlotKind × List ℕ

abbrev pub first_text : SlotKind → List ℕ → List FirstText
first_text kind.Text text = []
first_text kind.Literal text = []
first_text kind.Json text = []
first_text kind.StyleValue text = []
first_text (kind.UrlPart slot) text = []
first_text begins text = (begins, text) ∷ []

abbrev pub first_texts : List Chunk → List (List ℕ) → List FirstText
first_texts [] texts = []
first_texts (Markup bytes ∷ chunks) texts = first_texts chunks texts
first_texts (Slot p kind ∷ chunks) [] = first_texts chunks []
first_texts (Slot p kind ∷ chunks) (text ∷ texts) = first_text kind text ++ first_texts chunks texts

-- the URL begins with this base, which alone decides its scheme, user, password, host and port, on each page of the web and on none
pub record BeginsWith (base url : List ℕ) : Type 0 where
  pub rest : List ℕ
  pub is : url ≡ base ++ rest
  pub head : (page : Option Parts) → IsWebPage page → head_of (parse_url page url) ≡ head_of (parse_url page base)

-- it is the text of a slot that is all of it, or begins with that of a base
abbrev pub GoesOnFrom : SlotKind → List ℕ → List ℕ → Type 0
GoesOnFrom (kind.Base behind) text url = BeginsWith text url
GoesOnFrom (kind.OwnBase behind) text url = BeginsWith text url
GoesOnFrom whole text url = url ≡ text

-- the URL of such a text, which its slot takes
abbrev pub IsUrlOf : FirstText → List ℕ → Type 0
IsUrlOf (kind, text) url = MayBegin kind text × GoesOnFrom kind text url

-- the URLs of two pages, one by one: each two lead alike, or are those of the next of such texts, and lead alike if these are the same
abbrev pub AllAlike : List FirstText → List FirstText → List (List ℕ) → List (List ℕ) → Type 0
AllAlike [] [] [] [] = ⊤
AllAlike [] [] (url ∷ urls) (another ∷ others) = LeadAlike url another × AllAlike [] [] urls others
AllAlike (first ∷ firsts) (other ∷ more) (url ∷ urls) (another ∷ others) =
    (LeadAlike url another × AllAlike (first ∷ firsts) (other ∷ more) urls others)
    ⊎ ((first.0 ≡ other.0) × IsUrlOf first url × IsUrlOf other another × (first.1 ≡ other.1 → LeadAlike url another) × AllAlike firsts more urls others)
AllAlike firsts more urls others = ⊥

-- the URLs of the page of these texts and those of any page of the template are alike
abbrev pub LeadsAsAny : List Chunk → List (List ℕ) → Type 0
LeadsAsAny chunks texts =
    (others : List (List ℕ)) → Fill chunks others → AllByRecursion IsUtf8 others →
    AllAlike (first_texts chunks texts) (first_texts chunks others) (urls_of (page chunks texts)) (urls_of (page chunks others))
