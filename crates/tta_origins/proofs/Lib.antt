mod Procs
