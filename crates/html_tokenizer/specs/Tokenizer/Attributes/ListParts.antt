-- Where in its list of URLs the value of a `srcset` attribute is.
-- HTML Standard, 4.8.4.3.10 Parsing a srcset attribute. White space and commas stand before a URL, which goes up to white space, without the
-- commas at its end; descriptors go up to a comma outside of parentheses. What may be read in two ways is not followed.
use Rattle.std.specs.Prelude.{ℕ, Bool, true, false, ◌||◌, ◌==◌, if◌then◌else◌}
use Rattle.html_tokenizer.specs.Declarations.{comma, is_blank}
use Rattle.html_tokenizer.specs.declared.states.ListPart.{ListPart}
use Rattle.html_tokenizer.specs.declared.states.ListPart.TheVariants.{BeforeUrl, Url, FixedUrl, Comma, Descriptors, Rest}
use Rattle.html_tokenizer.specs.Tokenizer.Code.Characters.{opening_parenthesis}

-- a byte that cuts the list
abbrev pub is_list_mark : ℕ → Bool
is_list_mark b = is_blank b || b == comma

-- behind a URL; parentheses are not followed
abbrev pub descriptor_read : ℕ → ListPart
descriptor_read b =
    if b == comma then BeforeUrl
    else (if b == opening_parenthesis then Rest
    else Descriptors)

-- behind a comma in a URL: white space tells that the URL had ended, and another byte that the comma is one of the URL
abbrev pub comma_read : ℕ → ListPart
comma_read b =
    if b == comma then Comma
    else (if is_blank b then BeforeUrl
    else Rest)

-- after one byte more of the value
abbrev pub list_read : ListPart → ℕ → ListPart
list_read BeforeUrl b = if is_list_mark b then BeforeUrl else Url
list_read Url b =
    if b == comma then Comma
    else (if is_blank b then Descriptors
    else Url)
list_read FixedUrl b = if is_list_mark b then Rest else FixedUrl
list_read Comma b = comma_read b
list_read Descriptors b = descriptor_read b
list_read Rest b = Rest

-- in a reference: outside of a URL it may be of another part
abbrev pub list_reference : ListPart → ListPart
list_reference Url = Url
list_reference FixedUrl = FixedUrl
list_reference other = Rest

-- where the URL takes no slot any more
abbrev pub fixed_part : ListPart → ListPart
fixed_part Url = FixedUrl
fixed_part other = other

abbrev pub is_in_listed_url : ListPart → Bool
is_in_listed_url Url = true
is_in_listed_url FixedUrl = true
is_in_listed_url other = false
