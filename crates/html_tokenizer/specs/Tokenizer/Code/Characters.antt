-- Characters of code in ASCII.
use Rattle.std.specs.Prelude.{ℕ}

abbrev pub asterisk : ℕ
asterisk = 42

abbrev pub at_sign : ℕ
at_sign = 64

abbrev pub opening_parenthesis : ℕ
opening_parenthesis = 40

abbrev pub closing_parenthesis : ℕ
closing_parenthesis = 41

abbrev pub vertical_tab : ℕ
vertical_tab = 11

abbrev pub dollar_sign : ℕ
dollar_sign = 36

abbrev pub full_stop : ℕ
full_stop = 46

abbrev pub low_line : ℕ
low_line = 95

abbrev pub lower_f : ℕ
lower_f = 102

abbrev pub lower_i : ℕ
lower_i = 105

abbrev pub lower_m : ℕ
lower_m = 109

abbrev pub lower_o : ℕ
lower_o = 111

abbrev pub lower_p : ℕ
lower_p = 112

abbrev pub lower_r : ℕ
lower_r = 114

abbrev pub lower_t : ℕ
lower_t = 116
