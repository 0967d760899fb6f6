-- Worked registers.
use Rattle.std.specs.Prelude.{ℕ, List, codes, true, false}
use Rattle.registers.specs.Registers.{RegisterFile, nothing_set, with_config, with_url, with_wanted}

abbrev pub key : List ℕ
key = codes "WORM--a"

-- three URLs of the key, and the first of them taken away
abbrev pub three_urls : RegisterFile
three_urls = with_url (with_url (with_url nothing_set key (codes "http://b") true) key (codes "http://a") true) key (codes "ftp://c") true

abbrev pub some_urls : RegisterFile
some_urls = with_url three_urls key (codes "http://b") false

-- a config value, what is wanted, and a config value with an earlier name
abbrev pub configs_and_wanted : RegisterFile
configs_and_wanted = with_config (with_wanted (with_config nothing_set (codes "b") (codes "1")) (codes "w")) (codes "a") (codes "2")
