mod Serial
