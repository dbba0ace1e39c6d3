-- The identifiers that are served, by their names here.
use Rattle.std.specs.Prelude.{ℕ}

-- ---- the architecture
abbrev pub version : ℕ
version = 0x8000_0000

abbrev pub features : ℕ
features = 0x8000_0001

-- ---- core power
abbrev pub power_version : ℕ
power_version = 0x8400_0000

abbrev pub core_off : ℕ
core_off = 0x8400_0002

abbrev pub core_start : ℕ
core_start = 0x8400_0003

abbrev pub core_start_wide : ℕ
core_start_wide = 0xC400_0003

abbrev pub core_state : ℕ
core_state = 0x8400_0004

abbrev pub core_state_wide : ℕ
core_state_wide = 0xC400_0004

abbrev pub power_features : ℕ
power_features = 0x8400_000A

-- ---- single pages, and Realm's hand-over
abbrev pub granule_to_realm : ℕ
granule_to_realm = 0xC400_01B0

abbrev pub granule_to_normal : ℕ
granule_to_normal = 0xC400_01B1

abbrev pub realm_first : ℕ
realm_first = 0xC400_0150

abbrev pub realm_last : ℕ
realm_last = 0xC400_018E

abbrev pub realm_finish : ℕ
realm_finish = 0xC400_018F

-- ---- the board
abbrev pub take_pages : ℕ
take_pages = 0xC200_0010

abbrev pub give_pages : ℕ
give_pages = 0xC200_0011

abbrev pub owns_page : ℕ
owns_page = 0xC200_0012

abbrev pub map_pages : ℕ
map_pages = 0xC200_0020

abbrev pub unmap_pages : ℕ
unmap_pages = 0xC200_0021

abbrev pub where_leads : ℕ
where_leads = 0xC200_0022

abbrev pub count_on : ℕ
count_on = 0xC200_0030

-- ---- the trusted system
abbrev pub secure_finish : ℕ
secure_finish = 0xF200_0000
