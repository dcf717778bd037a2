-- where everything lies: pages, slots, privileges, and the bytes and words of the entries
use Rattle.std.specs.Prelude.{ℕ, ◌%◌, Bool, false, cond, ◌==◌, nat_le}
use Rattle.bank.specs.Ranges.{end}

-- the monitor page ends, and the common page begins; the common page ends
abbrev pub common_first : ℕ
common_first = 4096

abbrev pub common_past : ℕ
common_past = 8192

-- a memory of this many bytes starts a machine
abbrev pub starts : ℕ → Bool
starts n = cond (nat_le 16384 n) (cond (nat_le n end) (n % 4096 == 0) false) false

-- the slots' entries, and the one of the operating system
abbrev pub first_slot : ℕ
first_slot = 2

abbrev pub last_slot : ℕ
last_slot = 14

abbrev pub os_entry : ℕ
os_entry = 15

-- privileges: of an enclave, of the operating system, and of the monitor's own work
abbrev pub user : ℕ
user = 0

abbrev pub supervisor : ℕ
supervisor = 1

abbrev pub machine : ℕ
machine = 3

-- configuration bytes of a range that is shut and of one that is open
abbrev pub shut : ℕ
shut = 0x18

abbrev pub opened : ℕ
opened = 0x1F

-- the byte of the common page, which all may fetch and load from and which is locked
abbrev pub shared : ℕ
shared = 0x9D

-- the words of the monitor page, of the common page and of the operating system
abbrev pub monitor_word : ℕ
monitor_word = 0x1FF

abbrev pub common_word : ℕ
common_word = 0x5FF

abbrev pub system_word : ℕ
system_word = 0xFFFFFFFF
