-- The sizes that the paper sets, each once.
use Rattle.std.specs.Prelude.{ℕ}

-- the worlds, which are the owners of pages too
abbrev pub root : ℕ
root = 0

abbrev pub secure : ℕ
secure = 1

abbrev pub normal : ℕ
normal = 2

abbrev pub realm : ℕ
realm = 3

abbrev pub last_world : ℕ
last_world = realm

-- how many worlds there are
abbrev pub worlds : ℕ
worlds = 4

-- how many cores there may be
abbrev pub most_cores : ℕ
most_cores = 8

-- the bytes of a page
abbrev pub page_size : ℕ
page_size = 4096

-- how many pages a window may have; each table has a place for so many
abbrev pub most_pages : ℕ
most_pages = 4096

-- no window ends above this, 2^48
abbrev pub window_limit : ℕ
window_limit = 281474976710656

-- how many mappings a world may hold
abbrev pub most_mappings : ℕ
most_mappings = 16

-- no virtual range ends above this, 2^32
abbrev pub virtual_limit : ℕ
virtual_limit = 4294967296

-- attributes are 0, 1 where the pages may be written, 2 where they may be run
abbrev pub last_attributes : ℕ
last_attributes = 2

-- the highest owner number, type (0 yielding, 1 fast) and handler (architecture, board, standard, trusted system)
abbrev pub last_owner : ℕ
last_owner = 63

abbrev pub last_kind : ℕ
last_kind = 1

abbrev pub last_handler : ℕ
last_handler = 3
