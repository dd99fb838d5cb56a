-- The rows of the built-in table: 77 of the named character references of HTML, each with the code point of its character, in the order of the bytes of their names.
-- HTML Standard, 13.5 Named character references.
use Rattle.std.specs.Prelude.{ℕ, List, [], ◌∷◌, codes, encode_utf8}
use Rattle.hesc_specs.specs.References.Rows.{Row}

-- the row of a name and a code point
abbrev pub named : List ℕ → ℕ → Row
named name character = (name, encode_utf8 character)

abbrev pub named_rows : List Row
named_rows =
    named (codes "AElig") 0xC6
    ∷ named (codes "AMP") 0x26
    ∷ named (codes "Aacute") 0xC1
    ∷ named (codes "Abreve") 0x102
    ∷ named (codes "Acirc") 0xC2
    ∷ named (codes "Acy") 0x410
    ∷ named (codes "Afr") 0x1D504
    ∷ named (codes "Agrave") 0xC0
    ∷ named (codes "Alpha") 0x391
    ∷ named (codes "Amacr") 0x100
    ∷ named (codes "And") 0x2A53
    ∷ named (codes "Aogon") 0x104
    ∷ named (codes "Aopf") 0x1D538
    ∷ named (codes "ApplyFunction") 0x2061
    ∷ named (codes "Aring") 0xC5
    ∷ named (codes "Ascr") 0x1D49C
    ∷ named (codes "Assign") 0x2254
    ∷ named (codes "Atilde") 0xC3
    ∷ named (codes "Auml") 0xC4
    ∷ named (codes "Backslash") 0x2216
    ∷ named (codes "Barv") 0x2AE7
    ∷ named (codes "Barwed") 0x2306
    ∷ named (codes "Bcy") 0x411
    ∷ named (codes "Because") 0x2235
    ∷ named (codes "Bernoullis") 0x212C
    ∷ named (codes "Beta") 0x392
    ∷ named (codes "Bfr") 0x1D505
    ∷ named (codes "Bopf") 0x1D539
    ∷ named (codes "Breve") 0x2D8
    ∷ named (codes "Bscr") 0x212C
    ∷ named (codes "Bumpeq") 0x224E
    ∷ named (codes "CHcy") 0x427
    ∷ named (codes "COPY") 0xA9
    ∷ named (codes "Cacute") 0x106
    ∷ named (codes "Cap") 0x22D2
    ∷ named (codes "CapitalDifferentialD") 0x2145
    ∷ named (codes "Cayleys") 0x212D
    ∷ named (codes "Ccaron") 0x10C
    ∷ named (codes "Ccedil") 0xC7
    ∷ named (codes "Ccirc") 0x108
    ∷ named (codes "Cconint") 0x2230
    ∷ named (codes "Cdot") 0x10A
    ∷ named (codes "Cedilla") 0xB8
    ∷ named (codes "CenterDot") 0xB7
    ∷ named (codes "Cfr") 0x212D
    ∷ named (codes "Chi") 0x3A7
    ∷ named (codes "CircleDot") 0x2299
    ∷ named (codes "CircleMinus") 0x2296
    ∷ named (codes "CirclePlus") 0x2295
    ∷ named (codes "CircleTimes") 0x2297
    ∷ named (codes "ClockwiseContourIntegral") 0x2232
    ∷ named (codes "CloseCurlyDoubleQuote") 0x201D
    ∷ named (codes "CloseCurlyQuote") 0x2019
    ∷ named (codes "Colon") 0x2237
    ∷ named (codes "Colone") 0x2A74
    ∷ named (codes "Congruent") 0x2261
    ∷ named (codes "Conint") 0x222F
    ∷ named (codes "ContourIntegral") 0x222E
    ∷ named (codes "Copf") 0x2102
    ∷ named (codes "Coproduct") 0x2210
    ∷ named (codes "CounterClockwiseContourIntegral") 0x2233
    ∷ named (codes "Cross") 0x2A2F
    ∷ named (codes "Cscr") 0x1D49E
    ∷ named (codes "Cup") 0x22D3
    ∷ named (codes "CupCap") 0x224D
    ∷ named (codes "DD") 0x2145
    ∷ named (codes "DDotrahd") 0x2911
    ∷ named (codes "DJcy") 0x402
    ∷ named (codes "DScy") 0x405
    ∷ named (codes "DZcy") 0x40F
    ∷ named (codes "Dagger") 0x2021
    ∷ named (codes "amp") 0x26
    ∷ named (codes "apos") 0x27
    ∷ named (codes "gt") 0x3E
    ∷ named (codes "lt") 0x3C
    ∷ named (codes "nbsp") 0xA0
    ∷ named (codes "quot") 0x22
    ∷ []
