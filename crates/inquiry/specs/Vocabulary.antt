-- The words that `why` is made of, as octets.
-- Assumes nothing.
use Rattle.std.specs.Prelude.{ℕ, List, [], ◌∷◌}

-- `which: record `
abbrev pub w_which : List ℕ
w_which = 119 ∷ 104 ∷ 105 ∷ 99 ∷ 104 ∷ 58 ∷ 32 ∷ 114 ∷ 101 ∷ 99 ∷ 111 ∷ 114 ∷ 100 ∷ 32 ∷ []

-- ` at `
abbrev pub w_at : List ℕ
w_at = 32 ∷ 97 ∷ 116 ∷ 32 ∷ []

-- `, `
abbrev pub w_comma : List ℕ
w_comma = 44 ∷ 32 ∷ []

-- `/`
abbrev pub w_slash : List ℕ
w_slash = 47 ∷ []

-- `.`
abbrev pub w_point : List ℕ
w_point = 46 ∷ []

-- `opening`
abbrev pub w_opening : List ℕ
w_opening = 111 ∷ 112 ∷ 101 ∷ 110 ∷ 105 ∷ 110 ∷ 103 ∷ []

-- `unlock`
abbrev pub w_unlock : List ℕ
w_unlock = 117 ∷ 110 ∷ 108 ∷ 111 ∷ 99 ∷ 107 ∷ []

-- `CC`
abbrev pub w_cc : List ℕ
w_cc = 67 ∷ 67 ∷ []

-- `CV`
abbrev pub w_cv : List ℕ
w_cv = 67 ∷ 86 ∷ []

-- `, Your `
abbrev pub w_your : List ℕ
w_your = 44 ∷ 32 ∷ 89 ∷ 111 ∷ 117 ∷ 114 ∷ 32 ∷ []

-- `, from `
abbrev pub w_from : List ℕ
w_from = 44 ∷ 32 ∷ 102 ∷ 114 ∷ 111 ∷ 109 ∷ 32 ∷ []

-- `Section `
abbrev pub w_section : List ℕ
w_section = 83 ∷ 101 ∷ 99 ∷ 116 ∷ 105 ∷ 111 ∷ 110 ∷ 32 ∷ []

-- `LSP `
abbrev pub w_lsp : List ℕ
w_lsp = 76 ∷ 83 ∷ 80 ∷ 32 ∷ []

-- `pseudowire `
abbrev pub w_pseudowire : List ℕ
w_pseudowire = 112 ∷ 115 ∷ 101 ∷ 117 ∷ 100 ∷ 111 ∷ 119 ∷ 105 ∷ 114 ∷ 101 ∷ 32 ∷ []

-- `AIS`
abbrev pub w_ais : List ℕ
w_ais = 65 ∷ 73 ∷ 83 ∷ []

-- `LKR`
abbrev pub w_lkr : List ℕ
w_lkr = 76 ∷ 75 ∷ 82 ∷ []

-- `, refresh `
abbrev pub w_refresh : List ℕ
w_refresh = 44 ∷ 32 ∷ 114 ∷ 101 ∷ 102 ∷ 114 ∷ 101 ∷ 115 ∷ 104 ∷ 32 ∷ []

-- ` s`
abbrev pub w_seconds : List ℕ
w_seconds = 32 ∷ 115 ∷ []

-- `, L`
abbrev pub w_link_down : List ℕ
w_link_down = 44 ∷ 32 ∷ 76 ∷ []

-- `, interface `
abbrev pub w_interface : List ℕ
w_interface = 44 ∷ 32 ∷ 105 ∷ 110 ∷ 116 ∷ 101 ∷ 114 ∷ 102 ∷ 97 ∷ 99 ∷ 101 ∷ 32 ∷ []

-- `, Global_ID `
abbrev pub w_global : List ℕ
w_global = 44 ∷ 32 ∷ 71 ∷ 108 ∷ 111 ∷ 98 ∷ 97 ∷ 108 ∷ 95 ∷ 73 ∷ 68 ∷ 32 ∷ []

-- `how old: `
abbrev pub w_how_old : List ℕ
w_how_old = 104 ∷ 111 ∷ 119 ∷ 32 ∷ 111 ∷ 108 ∷ 100 ∷ 58 ∷ 32 ∷ []

-- `ends: at `
abbrev pub w_ends_at : List ℕ
w_ends_at = 101 ∷ 110 ∷ 100 ∷ 115 ∷ 58 ∷ 32 ∷ 97 ∷ 116 ∷ 32 ∷ []

-- `, unless another crossed message comes`
abbrev pub w_unless : List ℕ
w_unless = 44 ∷ 32 ∷ 117 ∷ 110 ∷ 108 ∷ 101 ∷ 115 ∷ 115 ∷ 32 ∷ 97 ∷ 110 ∷ 111 ∷ 116 ∷ 104 ∷ 101 ∷ 114 ∷ 32 ∷ 99 ∷ 114 ∷ 111 ∷ 115 ∷ 115 ∷ 101 ∷ 100 ∷ 32 ∷ 109 ∷ 101 ∷ 115 ∷ 115 ∷ 97 ∷ 103 ∷ 101 ∷ 32 ∷ 99 ∷ 111 ∷ 109 ∷ 101 ∷ 115 ∷ []

-- `ends: at the next CC or CV heard, a lock or a close; stood from `
abbrev pub w_stood : List ℕ
w_stood = 101 ∷ 110 ∷ 100 ∷ 115 ∷ 58 ∷ 32 ∷ 97 ∷ 116 ∷ 32 ∷ 116 ∷ 104 ∷ 101 ∷ 32 ∷ 110 ∷ 101 ∷ 120 ∷ 116 ∷ 32 ∷ 67 ∷ 67 ∷ 32 ∷ 111 ∷ 114 ∷ 32 ∷ 67 ∷ 86 ∷ 32 ∷ 104 ∷ 101 ∷ 97 ∷ 114 ∷ 100 ∷ 44 ∷ 32 ∷ 97 ∷ 32 ∷ 108 ∷ 111 ∷ 99 ∷ 107 ∷ 32 ∷ 111 ∷ 114 ∷ 32 ∷ 97 ∷ 32 ∷ 99 ∷ 108 ∷ 111 ∷ 115 ∷ 101 ∷ 59 ∷ 32 ∷ 115 ∷ 116 ∷ 111 ∷ 111 ∷ 100 ∷ 32 ∷ 102 ∷ 114 ∷ 111 ∷ 109 ∷ 32 ∷ []

-- `, or at a message of this key with R`
abbrev pub w_or_removed : List ℕ
w_or_removed = 44 ∷ 32 ∷ 111 ∷ 114 ∷ 32 ∷ 97 ∷ 116 ∷ 32 ∷ 97 ∷ 32 ∷ 109 ∷ 101 ∷ 115 ∷ 115 ∷ 97 ∷ 103 ∷ 101 ∷ 32 ∷ 111 ∷ 102 ∷ 32 ∷ 116 ∷ 104 ∷ 105 ∷ 115 ∷ 32 ∷ 107 ∷ 101 ∷ 121 ∷ 32 ∷ 119 ∷ 105 ∷ 116 ∷ 104 ∷ 32 ∷ 82 ∷ []

-- `, or when the loss ends`
abbrev pub w_or_loss_ends : List ℕ
w_or_loss_ends = 44 ∷ 32 ∷ 111 ∷ 114 ∷ 32 ∷ 119 ∷ 104 ∷ 101 ∷ 110 ∷ 32 ∷ 116 ∷ 104 ∷ 101 ∷ 32 ∷ 108 ∷ 111 ∷ 115 ∷ 115 ∷ 32 ∷ 101 ∷ 110 ∷ 100 ∷ 115 ∷ []

-- `refused 2: label `
abbrev pub w_not_open : List ℕ
w_not_open = 114 ∷ 101 ∷ 102 ∷ 117 ∷ 115 ∷ 101 ∷ 100 ∷ 32 ∷ 50 ∷ 58 ∷ 32 ∷ 108 ∷ 97 ∷ 98 ∷ 101 ∷ 108 ∷ 32 ∷ []

-- ` is not open`
abbrev pub w_is_not_open : List ℕ
w_is_not_open = 32 ∷ 105 ∷ 115 ∷ 32 ∷ 110 ∷ 111 ∷ 116 ∷ 32 ∷ 111 ∷ 112 ∷ 101 ∷ 110 ∷ []

-- `refused 15: no crossing stands`
abbrev pub w_no_crossing : List ℕ
w_no_crossing = 114 ∷ 101 ∷ 102 ∷ 117 ∷ 115 ∷ 101 ∷ 100 ∷ 32 ∷ 49 ∷ 53 ∷ 58 ∷ 32 ∷ 110 ∷ 111 ∷ 32 ∷ 99 ∷ 114 ∷ 111 ∷ 115 ∷ 115 ∷ 105 ∷ 110 ∷ 103 ∷ 32 ∷ 115 ∷ 116 ∷ 97 ∷ 110 ∷ 100 ∷ 115 ∷ []

-- `refused 15: no loss stands`
abbrev pub w_no_loss : List ℕ
w_no_loss = 114 ∷ 101 ∷ 102 ∷ 117 ∷ 115 ∷ 101 ∷ 100 ∷ 32 ∷ 49 ∷ 53 ∷ 58 ∷ 32 ∷ 110 ∷ 111 ∷ 32 ∷ 108 ∷ 111 ∷ 115 ∷ 115 ∷ 32 ∷ 115 ∷ 116 ∷ 97 ∷ 110 ∷ 100 ∷ 115 ∷ []

-- `refused 15: no alarm is held back`
abbrev pub w_not_held_back : List ℕ
w_not_held_back = 114 ∷ 101 ∷ 102 ∷ 117 ∷ 115 ∷ 101 ∷ 100 ∷ 32 ∷ 49 ∷ 53 ∷ 58 ∷ 32 ∷ 110 ∷ 111 ∷ 32 ∷ 97 ∷ 108 ∷ 97 ∷ 114 ∷ 109 ∷ 32 ∷ 105 ∷ 115 ∷ 32 ∷ 104 ∷ 101 ∷ 108 ∷ 100 ∷ 32 ∷ 98 ∷ 97 ∷ 99 ∷ 107 ∷ []

-- `refused 15: this condition does not stand`
abbrev pub w_no_condition : List ℕ
w_no_condition = 114 ∷ 101 ∷ 102 ∷ 117 ∷ 115 ∷ 101 ∷ 100 ∷ 32 ∷ 49 ∷ 53 ∷ 58 ∷ 32 ∷ 116 ∷ 104 ∷ 105 ∷ 115 ∷ 32 ∷ 99 ∷ 111 ∷ 110 ∷ 100 ∷ 105 ∷ 116 ∷ 105 ∷ 111 ∷ 110 ∷ 32 ∷ 100 ∷ 111 ∷ 101 ∷ 115 ∷ 32 ∷ 110 ∷ 111 ∷ 116 ∷ 32 ∷ 115 ∷ 116 ∷ 97 ∷ 110 ∷ 100 ∷ []

-- `capture: cut behind record `
abbrev pub w_cut : List ℕ
w_cut = 99 ∷ 97 ∷ 112 ∷ 116 ∷ 117 ∷ 114 ∷ 101 ∷ 58 ∷ 32 ∷ 99 ∷ 117 ∷ 116 ∷ 32 ∷ 98 ∷ 101 ∷ 104 ∷ 105 ∷ 110 ∷ 100 ∷ 32 ∷ 114 ∷ 101 ∷ 99 ∷ 111 ∷ 114 ∷ 100 ∷ 32 ∷ []

-- `capture: bad header`
abbrev pub w_bad_header : List ℕ
w_bad_header = 99 ∷ 97 ∷ 112 ∷ 116 ∷ 117 ∷ 114 ∷ 101 ∷ 58 ∷ 32 ∷ 98 ∷ 97 ∷ 100 ∷ 32 ∷ 104 ∷ 101 ∷ 97 ∷ 100 ∷ 101 ∷ 114 ∷ []

-- `usage: why LABEL crossing|loss|held-back|ais|lkr [if=NODE/INTERFACE] [global=ID] [upto=RECORD] < capture`
abbrev pub w_usage : List ℕ
w_usage = 117 ∷ 115 ∷ 97 ∷ 103 ∷ 101 ∷ 58 ∷ 32 ∷ 119 ∷ 104 ∷ 121 ∷ 32 ∷ 76 ∷ 65 ∷ 66 ∷ 69 ∷ 76 ∷ 32 ∷ 99 ∷ 114 ∷ 111 ∷ 115 ∷ 115 ∷ 105 ∷ 110 ∷ 103 ∷ 124 ∷ 108 ∷ 111 ∷ 115 ∷ 115 ∷ 124 ∷ 104 ∷ 101 ∷ 108 ∷ 100 ∷ 45 ∷ 98 ∷ 97 ∷ 99 ∷ 107 ∷ 124 ∷ 97 ∷ 105 ∷ 115 ∷ 124 ∷ 108 ∷ 107 ∷ 114 ∷ 32 ∷ 91 ∷ 105 ∷ 102 ∷ 61 ∷ 78 ∷ 79 ∷ 68 ∷ 69 ∷ 47 ∷ 73 ∷ 78 ∷ 84 ∷ 69 ∷ 82 ∷ 70 ∷ 65 ∷ 67 ∷ 69 ∷ 93 ∷ 32 ∷ 91 ∷ 103 ∷ 108 ∷ 111 ∷ 98 ∷ 97 ∷ 108 ∷ 61 ∷ 73 ∷ 68 ∷ 93 ∷ 32 ∷ 91 ∷ 117 ∷ 112 ∷ 116 ∷ 111 ∷ 61 ∷ 82 ∷ 69 ∷ 67 ∷ 79 ∷ 82 ∷ 68 ∷ 93 ∷ 32 ∷ 60 ∷ 32 ∷ 99 ∷ 97 ∷ 112 ∷ 116 ∷ 117 ∷ 114 ∷ 101 ∷ []

-- `\n`
abbrev pub w_line : List ℕ
w_line = 10 ∷ []
