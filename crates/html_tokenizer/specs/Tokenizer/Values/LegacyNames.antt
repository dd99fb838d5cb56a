-- The names of character references that need no `;`, in the order of their bytes.
-- HTML Standard, 13.5 Named character references, the names that do not end in `;`. Written by tools/named_references.py; not edited by hand.
use Rattle.std.specs.Prelude.{ℕ, List, [], ◌∷◌, codes}

abbrev pub legacy_names : List (List ℕ)
legacy_names =
    codes "AElig" ∷ codes "AMP" ∷ codes "Aacute" ∷ codes "Acirc" ∷ codes "Agrave" ∷ codes "Aring" ∷
    codes "Atilde" ∷ codes "Auml" ∷ codes "COPY" ∷ codes "Ccedil" ∷ codes "ETH" ∷ codes "Eacute" ∷
    codes "Ecirc" ∷ codes "Egrave" ∷ codes "Euml" ∷ codes "GT" ∷ codes "Iacute" ∷ codes "Icirc" ∷
    codes "Igrave" ∷ codes "Iuml" ∷ codes "LT" ∷ codes "Ntilde" ∷ codes "Oacute" ∷ codes "Ocirc" ∷
    codes "Ograve" ∷ codes "Oslash" ∷ codes "Otilde" ∷ codes "Ouml" ∷ codes "QUOT" ∷ codes "REG" ∷
    codes "THORN" ∷ codes "Uacute" ∷ codes "Ucirc" ∷ codes "Ugrave" ∷ codes "Uuml" ∷ codes "Yacute" ∷
    codes "aacute" ∷ codes "acirc" ∷ codes "acute" ∷ codes "aelig" ∷ codes "agrave" ∷ codes "amp" ∷
    codes "aring" ∷ codes "atilde" ∷ codes "auml" ∷ codes "brvbar" ∷ codes "ccedil" ∷ codes "cedil" ∷
    codes "cent" ∷ codes "copy" ∷ codes "curren" ∷ codes "deg" ∷ codes "divide" ∷ codes "eacute" ∷
    codes "ecirc" ∷ codes "egrave" ∷ codes "eth" ∷ codes "euml" ∷ codes "frac12" ∷ codes "frac14" ∷
    codes "frac34" ∷ codes "gt" ∷ codes "iacute" ∷ codes "icirc" ∷ codes "iexcl" ∷ codes "igrave" ∷
    codes "iquest" ∷ codes "iuml" ∷ codes "laquo" ∷ codes "lt" ∷ codes "macr" ∷ codes "micro" ∷ codes "middot" ∷
    codes "nbsp" ∷ codes "not" ∷ codes "ntilde" ∷ codes "oacute" ∷ codes "ocirc" ∷ codes "ograve" ∷
    codes "ordf" ∷ codes "ordm" ∷ codes "oslash" ∷ codes "otilde" ∷ codes "ouml" ∷ codes "para" ∷
    codes "plusmn" ∷ codes "pound" ∷ codes "quot" ∷ codes "raquo" ∷ codes "reg" ∷ codes "sect" ∷ codes "shy" ∷
    codes "sup1" ∷ codes "sup2" ∷ codes "sup3" ∷ codes "szlig" ∷ codes "thorn" ∷ codes "times" ∷ codes "uacute" ∷
    codes "ucirc" ∷ codes "ugrave" ∷ codes "uml" ∷ codes "uuml" ∷ codes "yacute" ∷ codes "yen" ∷ codes "yuml" ∷ []
